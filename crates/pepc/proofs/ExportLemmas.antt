-- The lines of a capture are taken one behind another.
use Rattle.std.proofs.Common.{◌≡◌, ℕ, inl, inr, List, [], ◌∷◌, ◌++◌, flat_map, Option, refl, sym, ap, ◌∙◌, append_assoc, append-nil}
use Rattle.std.specs.Io.KnownBytes.{Appends}
use Rattle.std.proofs.KnownBytes.{Appends-nil, Appends-trans}
use Rattle.std.proofs.lemmas.Grind.{flat_map-append}
use Rattle.pc_outside.specs.Prefixes.{AppendsPrefix}
use Rattle.trace_lines.specs.Line.{Line}
use Rattle.pcap_form.specs.Export.{export_of, header, record_of}
use Rattle.pepc.specs.ExportProgress.{BreaksOff, Captures, IsFirst}

-- the capture of one line more
export-push : (done : List Line) (line : Line) → export_of (done ++ line ∷ []) ≡ export_of done ++ record_of line
export-push done line =
    ap (λ records. header ++ records) (flat_map-append record_of done (line ∷ [])
    ∙ ap (λ one. flat_map record_of done ++ one) (append-nil (record_of line)))
    ∙ sym (append_assoc header (flat_map record_of done) (record_of line))

-- the header waits, and no line is taken yet
pub starts : (waiting : List ℕ) (sink : Option (List ℕ)) → waiting ≡ header → Captures waiting [] sink sink
starts waiting sink is = record {
  sent = [];
  written = Appends-nil sink;
  first = record { closed = []; open_ = []; cut = refl; capture = inl refl };
  waits = sym is;
}

-- some first ones are some first ones of one more
first_more : (sent : List ℕ) (done : List Line) (line : Line) → IsFirst sent done → IsFirst sent (done ++ line ∷ [])
first_more sent done line first = record {
  closed = first.closed;
  open_ = first.open_ ++ line ∷ [];
  cut = ap (λ lines. lines ++ line ∷ []) first.cut ∙ append_assoc first.closed first.open_ (line ∷ []);
  capture = first.capture;
}

-- a line's record waits too
pub stays : (waiting text : List ℕ) (done : List Line) (line : Line) (old new : Option (List ℕ))
    → Captures waiting done old new → text ≡ waiting ++ record_of line → Captures text (done ++ line ∷ []) old new
stays waiting text done line old new so_far is = record {
  sent = so_far.sent;
  written = so_far.written;
  first = first_more so_far.sent done line so_far.first;
  waits = export-push done line ∙ ap (λ t. t ++ record_of line) so_far.waits
      ∙ append_assoc so_far.sent waiting (record_of line) ∙ ap (λ t. so_far.sent ++ t) (sym is);
}

-- what waits is written
pub sends : (waiting now : List ℕ) (done : List Line) (old mid new : Option (List ℕ))
    → Captures waiting done old mid → Appends mid new waiting → now ≡ [] → Captures now done old new
sends waiting now done old mid new so_far written emptied = record {
  sent = so_far.sent ++ waiting;
  written = Appends-trans old mid new so_far.sent waiting so_far.written written;
  first = record { closed = done; open_ = []; cut = sym (append-nil done); capture = inr (sym so_far.waits) };
  waits = so_far.waits ∙ sym (append-nil (so_far.sent ++ waiting))
      ∙ ap (λ t. (so_far.sent ++ waiting) ++ t) (sym emptied);
}

-- or a prefix of it
pub breaks_off : (waiting : List ℕ) (done : List Line) (old mid new : Option (List ℕ))
    → Captures waiting done old mid → AppendsPrefix mid new waiting → BreaksOff done old new
breaks_off waiting done old mid new so_far cut = record {
  sent = so_far.sent ++ cut.prefix;
  more = cut.rest;
  written = Appends-trans old mid new so_far.sent cut.prefix so_far.written cut.appended;
  parts = so_far.waits ∙ ap (λ t. so_far.sent ++ t) cut.parts ∙ sym (append_assoc so_far.sent cut.prefix cut.rest);
}
