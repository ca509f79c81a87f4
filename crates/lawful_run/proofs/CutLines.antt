-- Lines cut into epochs, behind one line more, and how long an epoch is.
use Rattle.std.proofs.Common.{◌≡◌, ℕ, suc, ◌+◌, ◌<◌, ◌||◌, nat_le, Bool, true, false, if◌then◌else◌, List, [], ◌∷◌, ◌++◌, length, refl, sym, ap, ◌∙◌, subst, arith, append_assoc, append-nil, length-append}
use Rattle.std.specs.List.{flat_map}
use Rattle.std.proofs.lemmas.Bool.{leb-false}
use Rattle.std.proofs.lemmas.Grind.{flat_map-append}
use Rattle.std.proofs.lemmas.List.Elements.{All-nil, All-push}
use Rattle.std.proofs.lemmas.List.Sums.{sum_by-append}
use Rattle.trace_lines.specs.Epochs.{ends_epoch, epochs_behind, epochs_of, is_fence, octets_in}
use Rattle.trace_lines.specs.Line.{Line}
use Rattle.trace_lines.specs.Text.{line_text}
use Rattle.demux.specs.Trace.{Meaning}
use Rattle.lawful_run.specs.Cut.{IsCut, lines_in}
use Rattle.lawful_run.specs.Trace.{is_whole, meant_epochs, meant_from, open_epoch}

-- an epoch is whole where its last line ends it
is_whole-push : (before lines : List Line) (last : Line)
    → is_whole before (lines ++ last ∷ []) ≡ ends_epoch (before ++ lines) last
is_whole-push before [] last = ap (λ b. ends_epoch b last) (sym (append-nil before))
is_whole-push before (line ∷ []) last = refl
is_whole-push before (line ∷ next ∷ lines) last =
    is_whole-push (before ++ line ∷ []) (next ∷ lines) last
    ∙ ap (λ b. ends_epoch b last) (append_assoc before (line ∷ []) (next ∷ lines))

-- one line of an epoch
epochs_behind-line : (before : List Line) (line : Line) (lines : List Line)
    → epochs_behind before (line ∷ lines)
    ≡ (if ends_epoch before line then (before ++ line ∷ []) ∷ epochs_behind [] lines
    else epochs_behind (before ++ line ∷ []) lines)
epochs_behind-line [] line lines = refl
epochs_behind-line (first ∷ before) line lines = refl

epochs_behind-none : (before : List Line) → epochs_behind before [] ≡ open_epoch before
epochs_behind-none [] = refl
epochs_behind-none (line ∷ before) = refl

pub lines_in-push : (closed : List (List Line)) (epoch : List Line)
    → lines_in (closed ++ epoch ∷ []) ≡ lines_in closed ++ epoch
lines_in-push closed epoch = flat_map-append (λ (e : List Line). e) closed (epoch ∷ [])
    ∙ ap (λ lines. lines_in closed ++ lines) (append-nil epoch)

pub cut_nothing : IsCut [] [] []
cut_nothing = record {
  parts = refl;
  closes = λ later. refl;
  opens = λ later. refl;
  whole = All-nil (λ epoch. is_whole [] epoch ≡ true);
  unfinished = refl;
}

-- a line that doesn't end its epoch
pub cut_open : (done : List Line) (closed : List (List Line)) (open_ : List Line) (line : Line)
    → IsCut done closed open_
    → ends_epoch open_ line ≡ false → IsCut (done ++ line ∷ []) closed (open_ ++ line ∷ [])
cut_open done closed open_ line cut stays = record {
  parts = ap (λ lines. lines ++ line ∷ []) cut.parts ∙ append_assoc (lines_in closed) open_ (line ∷ []);
  closes = cut.closes;
  opens = λ later. ap (epochs_behind []) (append_assoc open_ (line ∷ []) later)
      ∙ cut.opens (line ∷ later) ∙ epochs_behind-line open_ line later
      ∙ ap (λ test. if test then (open_ ++ line ∷ []) ∷ epochs_behind [] later
      else epochs_behind (open_ ++ line ∷ []) later) stays;
  whole = cut.whole;
  unfinished = is_whole-push [] open_ line ∙ stays;
}

-- one that ends it
pub cut_whole : (done : List Line) (closed : List (List Line)) (open_ : List Line) (line : Line)
    → IsCut done closed open_
    → ends_epoch open_ line ≡ true → IsCut (done ++ line ∷ []) (closed ++ (open_ ++ line ∷ []) ∷ []) []
cut_whole done closed open_ line cut ends =
    let epoch = open_ ++ line ∷ [] in
    record {
      parts = ap (λ lines. lines ++ line ∷ []) cut.parts ∙ append_assoc (lines_in closed) open_ (line ∷ [])
          ∙ sym (lines_in-push closed epoch) ∙ sym (append-nil (lines_in (closed ++ epoch ∷ [])));
      closes = λ later. ap (λ lines. epochs_of (lines ++ later)) (lines_in-push closed epoch)
          ∙ ap epochs_of (append_assoc (lines_in closed) epoch later)
          ∙ cut.closes (epoch ++ later)
          ∙ ap (λ rest. closed ++ rest) (ap (epochs_behind []) (append_assoc open_ (line ∷ []) later)
          ∙ cut.opens (line ∷ later)
          ∙ epochs_behind-line open_ line later
          ∙ ap (λ test. if test then epoch ∷ epochs_behind [] later else epochs_behind epoch later) ends)
          ∙ sym (append_assoc closed (epoch ∷ []) (epochs_behind [] later));
      opens = λ later. refl;
      whole = All-push (λ e. is_whole [] e ≡ true) closed epoch cut.whole (is_whole-push [] open_ line ∙ ends);
      unfinished = refl;
    }

-- the epochs of the lines
pub epochs_are : (done : List Line) (closed : List (List Line)) (open_ : List Line) → IsCut done closed open_
    → epochs_of done ≡ closed ++ open_epoch open_
epochs_are done closed open_ cut =
    ap epochs_of cut.parts ∙ cut.closes open_
    ∙ ap (λ rest. closed ++ rest) (ap (epochs_behind []) (sym (append-nil open_)) ∙ cut.opens []
    ∙ epochs_behind-none open_)

-- the lines of the whole epochs alone
pub cut_closed : (done : List Line) (closed : List (List Line)) (open_ : List Line) → IsCut done closed open_
    → IsCut (lines_in closed) closed []
cut_closed done closed open_ cut = record {
  parts = sym (append-nil (lines_in closed));
  closes = cut.closes;
  opens = λ later. refl;
  whole = cut.whole;
  unfinished = refl;
}

pub meant_epochs-push : (slices : ℕ) (before : List Line) (closed : List (List Line)) (epoch : List Line)
    → meant_epochs slices before (closed ++ epoch ∷ []) ≡ meant_epochs slices before closed
    ++ meant_from slices (before ++ lines_in closed) epoch ∷ []
meant_epochs-push slices before [] epoch = ap (λ b. meant_from slices b epoch ∷ []) (sym (append-nil before))
meant_epochs-push slices before (first ∷ closed) epoch =
    ap (λ rest. meant_from slices before first ∷ rest)
    (meant_epochs-push slices (before ++ first) closed epoch
    ∙ ap (λ b. meant_epochs slices (before ++ first) closed ++ meant_from slices b epoch ∷ [])
    (append_assoc before first (lines_in closed)))

pub length-meant_from : (slices : ℕ) (before lines : List Line) → length (meant_from slices before lines) ≡ length lines
length-meant_from slices before [] = refl
length-meant_from slices before (line ∷ lines) = ap suc (length-meant_from slices (before ++ line ∷ []) lines)

-- as many meanings as lines
pub count_meant : (slices : ℕ) (before : List Line) (closed : List (List Line))
    → length (flat_map (λ (made : List Meaning). made) (meant_epochs slices before closed)) ≡ length (lines_in closed)
count_meant slices before [] = refl
count_meant slices before (epoch ∷ closed) =
    omega (
      arith,
      length-append (meant_from slices before epoch) (flat_map (λ (made : List Meaning). made)
          (meant_epochs slices (before ++ epoch) closed)),
      length-append epoch (lines_in closed),
      length-meant_from slices before epoch,
      count_meant slices (before ++ epoch) closed,
    )

-- an epoch that a line doesn't end is short
both_below : (a b c : Bool) → (a || b || c) ≡ false → (b ≡ false) × (c ≡ false)
both_below true b c is = (cc, cc)
both_below false true c is = (cc, cc)
both_below false false c is = (refl, is)

pub stays_short : (open_ : List Line) (line : Line) → ends_epoch open_ line ≡ false
    → (length open_ + 1 < 65536) × (octets_in open_ + length (line_text line) < 67108864)
stays_short open_ line is =
    let both = both_below (is_fence line.kind) (nat_le 65536 (length open_ + 1))
    (nat_le 67108864 (octets_in open_ + length (line_text line))) is in
    (leb-false 65536 (length open_ + 1) both.0, leb-false 67108864 (octets_in open_ + length (line_text line)) both.1)

pub octets_more : (open_ : List Line) (line : Line)
    → octets_in (open_ ++ line ∷ []) ≡ octets_in open_ + length (line_text line)
octets_more open_ line =
    let more = sum_by-append (λ (l : Line). length (line_text l)) open_ (line ∷ []) in omega (arith, more)

-- and so is one that no line ended
open_short : (before : List Line) (line : Line) (lines : List Line) → is_whole before (line ∷ lines) ≡ false
    → octets_in (before ++ line ∷ lines) < 67108864
open_short before line [] is = omega (arith, stays_short before line is, octets_more before line)
open_short before line (next ∷ lines) is =
    subst (λ all. octets_in all < 67108864) (append_assoc before (line ∷ []) (next ∷ lines))
    (open_short (before ++ line ∷ []) next lines is)

pub short_open : (open_ : List Line) → is_whole [] open_ ≡ false → octets_in open_ < 67108864
short_open [] is = omega arith
short_open (line ∷ lines) is = open_short [] line lines is
