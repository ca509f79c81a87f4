use Rattle.std.proofs.Common.{◌≡◌, ◌<◌, ◌^◌, ◌++◌, ◌∙◌, sym, ap, subst, length, List}
use Rattle.std.specs.Prelude.{All}
use Rattle.std.specs.List.{flat_map}
use Rattle.rate_policer.specs.Buckets.{BucketState}
use Rattle.charging_book.specs.declared.records.Piece.{Piece}
use Rattle.bearer_state.specs.declared.version.ActiveBearer.{ActiveBearer}
use Rattle.packet_steps.specs.Rows.{HeldRow}
use Rattle.packet_steps.specs.Parts.{PartsState}
use Rattle.record_codec.specs.Spelling.{u64, optional, listed, bucket_text, text_for, held_text}
use Rattle.record_codec.proofs.RoomLemmas.{counters_put}
use Rattle.record_codec.proofs.writing.put_counters.Goals as goal

pub put_all_held-requires-clause-few : goal.put_all_held-requires-clause-few
put_all_held-requires-clause-few c =
    let same : c.deref-3.result.now ≡ c.args.counters.now.held
    = c.deref-3.ensures.value ∙ ap (λ (p : PartsState). p.held) c.parts-2.view_is ∙ c.in_ok-parts.ensures.parts.held in
    rw same c.requires.few

pub put_all_held-requires-clause-short : goal.put_all_held-requires-clause-short
put_all_held-requires-clause-short c =
    let same : c.deref-3.result.now ≡ c.args.counters.now.held
    = c.deref-3.ensures.value ∙ ap (λ (p : PartsState). p.held) c.parts-2.view_is ∙ c.in_ok-parts.ensures.parts.held in
    subst (λ (rows : List HeldRow). All (λ (row : HeldRow). length row.packet.octets < 2 ^ 16) rows) (sym same)
    c.requires.short

pub returns : goal.returns
returns c =
    let version = c.args.version.now in
    let parts = c.in_ok-parts.parts in
    let is = c.parts-2.view_is in
    let t0 = c.args.text.now.items in
    let t1 = c.put_moment_or_none.new.text.items in
    let t2 = c.put_buckets.new.text.items in
    let t3 = c.put_pieces.new.text.items in
    counters_put version c.args.counters.now parts t0 t1 t2 t3 c.put_all_held.new.text.items c.in_ok-parts.ensures.parts
    (c.in_ok-put_moment_or_none.ensures ∙ ap (λ (p : PartsState). t0 ++ optional u64 p.last) is)
    (c.in_ok-put_buckets.ensures
    ∙ ap (λ (buckets : List BucketState). t1 ++ flat_map bucket_text buckets)
    (c.deref.ensures.value ∙ ap (λ (p : PartsState). p.buckets) is))
    (c.in_ok-put_pieces.ensures
    ∙ ap (λ (pieces : List Piece). t2 ++ flat_map (text_for pieces) c.bearers.result.now)
    (c.deref-2.ensures.value ∙ ap (λ (p : PartsState). p.pieces) is)
    ∙ ap (λ (bearers : List ActiveBearer). t2 ++ flat_map (text_for parts.pieces) bearers) c.bearers.ensures.value)
    (c.in_ok-put_all_held.ensures
    ∙ ap (λ (rows : List HeldRow). t3 ++ listed held_text rows)
    (c.deref-3.ensures.value ∙ ap (λ (p : PartsState). p.held) is))
