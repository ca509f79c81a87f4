-- What a new version has brought behind one held packet more.
use Rattle.std.proofs.Common.{◌≡◌, ℕ, Bool, true, false, cond, List, [], ◌∷◌, ◌++◌, map, length, Some, sym, ◌∙◌, ap, subst, append_assoc}
use Rattle.std.specs.List.{Contains}
use Rattle.std.proofs.lemmas.List.{map_push}
use Rattle.pc_base.specs.declared.effect.Effect.{Effect}
use Rattle.pc_base.specs.declared.effect.Effect.TheVariants as effect
use Rattle.pc_base.specs.declared.effect.Fate.{Fate}
use Rattle.pc_base.specs.declared.effect.Fate.TheVariants as fate
use Rattle.pc_base.specs.declared.packet.Peer.{Peer}
use Rattle.charging_book.specs.Happenings.{Happening, forwarded}
use Rattle.charging_book.specs.Postings.{happening_of}
use Rattle.charging_book.specs.declared.accounts.posting.Posting.TheVariants.{Packet}
use Rattle.rate_policer.specs.Buckets.{BucketState}
use Rattle.bearer_state.specs.declared.version.ActiveBearer.{ActiveBearer}
use Rattle.bearer_state.specs.Version.{IsVersion}
use Rattle.packet_steps.specs.declared.releasing.Release.{Release}
use Rattle.packet_steps.specs.Rows.{HeldRow}
use Rattle.packet_steps.specs.Messages.{gpdu}
use Rattle.packet_steps.specs.Past.{Past, moment_of, row_for, with_row, with_held}
use Rattle.packet_steps.specs.Policing.{passes}
use Rattle.packet_steps.specs.Verdicts.{at_moment}
use Rattle.packet_steps.specs.Change.{fated, released_to}
use Rattle.packet_steps.specs.Meters.{MetersState, in_use, put_bucket, MetersStand}
use Rattle.packet_steps.specs.Plans.{Tries}
use Rattle.packet_steps.specs.Releases.{Releases}
use Rattle.packet_steps.proofs.MeterLemmas.{put_stands, put_still}

-- what was tried at the last packet's moment was tried now
pub tries_now : (past : Past) (bearer : ActiveBearer) (up : Bool) (at octets : ℕ) (tried : Bool × BucketState)
    → moment_of past ≡ at
    → Tries (at_moment past at) bearer up octets tried → Tries past bearer up octets tried
tries_now past bearer up at octets tried now known =
    let here : Tries (at_moment past (moment_of past)) bearer up octets tried =
    subst (λ moment. Tries (at_moment past moment) bearer up octets tried) (sym now) known in
    record { answer = here.answer; behind = here.behind; still = here.still }

-- one effect more
pub told_more : (old new : Release) (before : List Happening) (so_far : Past × List Effect) (row : HeldRow)
    (fate_ : Fate) → Releases old before so_far
    → in_use new.meters ≡ in_use old.meters → new.postings.items ≡ old.postings.items
    → new.effects.items ≡ old.effects.items ++ effect.Fate row.packet.number fate_ ∷ []
    → Releases new before (fated so_far row fate_)
told_more old new before so_far row fate_ known meters postings effects = record {
  meters = subst (λ (m : MetersState). MetersStand m so_far.0) (sym meters) known.meters;
  postings = ap (λ ps. before ++ map happening_of ps) postings ∙ known.postings;
  effects = effects ∙ ap (λ es. es ++ effect.Fate row.packet.number fate_ ∷ []) known.effects;
}

-- a packet that waits on
pub waits_more : (release : Release) (before : List Happening) (so_far : Past × List Effect) (row : HeldRow)
    → Releases release before so_far
    → Releases release before (with_held so_far.0 row, so_far.1)
waits_more release before so_far row known = record {
  meters = record { sized = known.meters.sized; shared = known.meters.shared; own = known.meters.own };
  postings = known.postings;
  effects = known.effects;
}

-- a packet that doesn't conform
pub policed_more : (old new : Release) (before : List Happening) (so_far : Past × List Effect) (row : HeldRow)
    (bearer : ActiveBearer) (peer : Peer) (tried : Bool × BucketState) (at : ℕ) (octets : List ℕ)
    → octets ≡ row.packet.octets → Releases old before so_far → IsVersion so_far.0.version
    → Contains so_far.0.version.bearers bearer → moment_of so_far.0 ≡ at
    → Tries (at_moment so_far.0 at) bearer false (length octets) tried → tried.0 ≡ false
    → in_use new.meters ≡ put_bucket (in_use old.meters) bearer false tried.1 → new.postings.items ≡ old.postings.items
    → new.effects.items ≡ old.effects.items ++ effect.Fate row.packet.number (fate.Policed row.life) ∷ []
    → Releases new before (released_to so_far row bearer (Some peer))
policed_more old new before so_far row bearer peer tried at octets is known ranges there now tries kept_back meters postings
    effects =
    let here = tries_now so_far.0 bearer false at (length octets) tried now tries in
    let fails : passes so_far.0 bearer false (length row.packet.octets) ≡ false =
    ap (λ (text : List ℕ). passes so_far.0 bearer false (length text)) (sym is) ∙ here.answer ∙ kept_back in
    let outcome : Bool → Past × List Effect = λ passed.
    cond passed (fated (with_row so_far.0 (row_for so_far.0 bearer false (length row.packet.octets)), so_far.1) row
    (fate.Down row.life peer.addr (gpdu peer row.packet.octets)))
    (fated so_far row (fate.Policed row.life)) in
    subst (λ passed. Releases new before (outcome passed)) (sym fails) (record {
      meters = subst (λ (m : MetersState). MetersStand m so_far.0) (sym meters)
          (put_still (in_use old.meters) so_far.0 bearer false tried.1 known.meters ranges there (here.still kept_back));
      postings = ap (λ ps. before ++ map happening_of ps) postings ∙ known.postings;
      effects = effects ∙ ap (λ es. es ++ effect.Fate row.packet.number (fate.Policed row.life) ∷ []) known.effects;
    })

-- a packet that is forwarded
pub passed_more : (old new : Release) (before : List Happening) (so_far : Past × List Effect) (row : HeldRow)
    (bearer : ActiveBearer) (peer : Peer) (tried : Bool × BucketState) (at : ℕ)
    → Releases old before so_far → IsVersion so_far.0.version → Contains so_far.0.version.bearers bearer
    → moment_of so_far.0 ≡ at
    → Tries (at_moment so_far.0 at) bearer false (length row.packet.octets) tried → tried.0 ≡ true
    → in_use new.meters ≡ put_bucket (in_use old.meters) bearer false tried.1
    → new.postings.items ≡ old.postings.items ++ Packet bearer.life false (length row.packet.octets) at ∷ []
    → new.effects.items ≡ old.effects.items
    ++ effect.Fate row.packet.number (fate.Down row.life peer.addr (gpdu peer row.packet.octets)) ∷ []
    → Releases new before (released_to so_far row bearer (Some peer))
passed_more old new before so_far row bearer peer tried at known ranges there now tries let_through meters postings effects =
    let octets = length row.packet.octets in
    let passing = tries_now so_far.0 bearer false at octets tried now tries in
    let outcome : Bool → Past × List Effect = λ passed.
    cond passed (fated (with_row so_far.0 (row_for so_far.0 bearer false octets), so_far.1) row
    (fate.Down row.life peer.addr (gpdu peer row.packet.octets)))
    (fated so_far row (fate.Policed row.life)) in
    let posted : ℕ → Happening = λ moment. forwarded bearer.life
    (record { up = false; octets = octets; at = moment }) in
    subst (λ passed. Releases new before (outcome passed)) (sym (passing.answer ∙ let_through)) (record {
      meters = subst (λ (m : MetersState). MetersStand m (with_row so_far.0 (row_for so_far.0 bearer false octets)))
          (sym meters)
          (put_stands (in_use old.meters) so_far.0 bearer false octets tried.1 known.meters ranges there (passing.behind let_through));
      postings = ap (λ ps. before ++ map happening_of ps) postings
          ∙ ap (λ hs. before ++ hs) (map_push happening_of old.postings.items (Packet bearer.life false octets at))
          ∙ sym (append_assoc before (map happening_of old.postings.items) (posted at ∷ []))
          ∙ ap (λ hs. hs ++ posted at ∷ []) known.postings
          ∙ ap (λ moment. so_far.0.charged ++ posted moment ∷ []) (sym now);
      effects = effects ∙ ap (λ es. es
          ++ effect.Fate row.packet.number (fate.Down row.life peer.addr (gpdu peer row.packet.octets)) ∷ []) known.effects;
    })

-- the same of octets that are the packet's
pub passed_here : (old new : Release) (before : List Happening) (so_far : Past × List Effect) (row : HeldRow)
    (bearer : ActiveBearer) (peer : Peer) (tried : Bool × BucketState) (at : ℕ) (octets : List ℕ)
    → octets ≡ row.packet.octets → Releases old before so_far → IsVersion so_far.0.version
    → Contains so_far.0.version.bearers bearer → moment_of so_far.0 ≡ at
    → Tries (at_moment so_far.0 at) bearer false (length octets) tried → tried.0 ≡ true
    → in_use new.meters ≡ put_bucket (in_use old.meters) bearer false tried.1
    → new.postings.items ≡ old.postings.items ++ Packet bearer.life false (length octets) at ∷ []
    → new.effects.items ≡ old.effects.items
    ++ effect.Fate row.packet.number (fate.Down row.life peer.addr (gpdu peer octets)) ∷ []
    → Releases new before (released_to so_far row bearer (Some peer))
passed_here old new before so_far row bearer peer tried at octets is known ranges there now tries let_through meters postings effects =
    passed_more old new before so_far row bearer peer tried at known ranges there now
    (subst (λ (text : List ℕ). Tries (at_moment so_far.0 at) bearer false (length text) tried) is tries) let_through meters
    (postings ∙ ap (λ (text : List ℕ). old.postings.items ++ Packet bearer.life false (length text) at ∷ []) is)
    (effects ∙ ap (λ (text : List ℕ). old.effects.items
    ++ effect.Fate row.packet.number (fate.Down row.life peer.addr (gpdu peer text)) ∷ []) is)
