-- A component that is read is spelled so, and one that is spelled is read again.
use Rattle.std.proofs.Common.{◌≡◌, ℕ, ◌^◌, ◌<◌, ◌≤◌, cond, eqb, List, [], ◌∷◌, ◌++◌, length, Option, Some, refl, sym, ap, subst, ◌∙◌, append_assoc, arith, inl, inr}
use Rattle.wire_octets.specs.Numbers.{be16_at, be16_octets, be32_at, be32_octets}
use Rattle.std.proofs.lemmas.Bool.{eqb-true}
use Rattle.tft_codec.specs.declared.component.Component.{Component}
use Rattle.tft_codec.specs.declared.component.Component.TheVariants.{RemoteAddr, LocalAddr, Protocol, LocalPort, LocalRange, RemotePort, RemoteRange, Spi, Tos}
use Rattle.tft_codec.specs.Types.{remote_address_type, local_address_type, protocol_type, local_port_type, local_range_type, remote_port_type, remote_range_type, spi_type, tos_type}
use Rattle.tft_codec.specs.Component.{row, type_octet, IsComponent}
use Rattle.tft_codec.specs.Reading.{◌>>=◌, number_at, octet_at, pair_at, one, two, component_of}
use Rattle.wire_octets.specs.Numbers.{AreOctets}
use Rattle.tft_codec.proofs.Fields.{chosen, bind_some, some_is, Takes, Takes-then, IsReader, reads8, reads16, reads32}

-- the component and the rest that were found behind a type octet
pub record IsFound (kind : ℕ) (octets : List ℕ) (c : Component) (rest : List ℕ) : Type 0 where
  pub kind_is : kind ≡ type_octet c
  pub shorter : length rest ≤ length octets
  pub taken : AreOctets octets → Takes octets (row c).1 rest × IsComponent c

one_found : (limit : ℕ) (text : ℕ → List ℕ) (at : List ℕ → Option (ℕ × List ℕ)) → IsReader limit text at
    → (kind : ℕ) (make : ℕ → Component) → ((n : ℕ) → row (make n) ≡ (kind, text n))
    → ((n : ℕ) → n < limit → IsComponent (make n))
    → (octets : List ℕ) (c : Component) (rest : List ℕ) → one at make octets ≡ Some (c, rest)
    → IsFound kind octets c rest
one_found limit text at reader kind make row_is fits octets c rest e =
    let b = bind_some (at octets) (λ n. Some (make n.0, n.1)) (c, rest) e in
    let made = some_is (make b.0.0, b.0.1) (c, rest) b.2 in
    let found : IsFound kind octets (make b.0.0) b.0.1 = record {
      kind_is = ap (λ (r : ℕ × List ℕ). r.0) (sym (row_is b.0.0));
      shorter = reader.shorter octets b.0.0 b.0.1 b.1;
      taken = λ small.
          let t = reader.takes octets b.0.0 b.0.1 small b.1 in
          (subst (λ (r : ℕ × List ℕ). Takes octets r.1 b.0.1) (sym (row_is b.0.0)) t.0, fits b.0.0 t.1);
    } in
    subst (λ (p : Component × List ℕ). IsFound kind octets p.0 p.1) made found

two_found : (limit : ℕ) (text : ℕ → List ℕ) (at : List ℕ → Option (ℕ × List ℕ)) → IsReader limit text at
    → (kind : ℕ) (make : ℕ → ℕ → Component) → ((m n : ℕ) → row (make m n) ≡ (kind, text m ++ text n))
    → ((m n : ℕ) → m < limit → n < limit → IsComponent (make m n))
    → (octets : List ℕ) (c : Component) (rest : List ℕ) → two at make octets ≡ Some (c, rest)
    → IsFound kind octets c rest
two_found limit text at reader kind make row_is fits octets c rest e =
    let b = bind_some (pair_at at octets) (λ pair. Some (make pair.0 pair.1, pair.2)) (c, rest) e in
    let first = bind_some (at octets) (λ first. at first.1 >>= λ second. Some (first.0, second.0, second.1)) b.0 b.1 in
    let second = bind_some (at first.0.1) (λ second. Some (first.0.0, second.0, second.1)) b.0 first.2 in
    let pair-is = some_is (first.0.0, second.0.0, second.0.1) b.0 second.2 in
    let made : (make first.0.0 second.0.0, second.0.1) ≡ (c, rest)
    = ap (λ (p : ℕ × ℕ × List ℕ). (make p.0 p.1, p.2)) pair-is ∙ some_is (make b.0.0 b.0.1, b.0.2) (c, rest) b.2 in
    let found : IsFound kind octets (make first.0.0 second.0.0) second.0.1 = record {
      kind_is = ap (λ (r : ℕ × List ℕ). r.0) (sym (row_is first.0.0 second.0.0));
      shorter = omega (
        arith,
        reader.shorter octets first.0.0 first.0.1 first.1,
        reader.shorter first.0.1 second.0.0 second.0.1 second.1,
      );
      taken = λ small.
          let t = reader.takes octets first.0.0 first.0.1 small first.1 in
          let u = reader.takes first.0.1 second.0.0 second.0.1 t.0.rest_small second.1 in
          let both = Takes-then octets (text first.0.0) first.0.1 (text second.0.0) second.0.1 t.0 u.0 in (
            subst (λ (r : ℕ × List ℕ). Takes octets r.1 second.0.1) (sym (row_is first.0.0 second.0.0)) both,
            fits first.0.0 second.0.0 t.1 u.1,
          );
    } in
    subst (λ (p : Component × List ℕ). IsFound kind octets p.0 p.1) made found

-- a row of the table of readers: this type octet, or the rows after it
row_or : (kind octet : ℕ) (octets : List ℕ) (here later : Option (Component × List ℕ)) (c : Component) (rest : List ℕ)
    → (here ≡ Some (c, rest) → IsFound octet octets c rest) → (later ≡ Some (c, rest) → IsFound kind octets c rest)
    → cond (eqb kind octet) here later ≡ Some (c, rest) → IsFound kind octets c rest
row_or kind octet octets here later c rest found_here found_later e =
    elim (chosen (eqb kind octet) here later (Some (c, rest)) e) [
      | inl this ↦ rw (eqb-true kind octet this.0) (found_here this.1)
      | inr other ↦ found_later other.1
    ]

pub component_found : (kind : ℕ) (octets : List ℕ) (c : Component) (rest : List ℕ)
    → component_of kind octets ≡ Some (c, rest) → IsFound kind octets c rest
unfolding component_of
component_found kind octets c rest e =
    row_or kind remote_address_type octets _ _ c rest
    (two_found (2 ^ 32) be32_octets (number_at 4 be32_at) reads32 remote_address_type RemoteAddr (λ m n. refl)
    (λ m n p q. (p, q)) octets c rest)
    (row_or kind local_address_type octets _ _ c rest
    (two_found (2 ^ 32) be32_octets (number_at 4 be32_at) reads32 local_address_type LocalAddr (λ m n. refl)
    (λ m n p q. (p, q)) octets c rest)
    (row_or kind protocol_type octets _ _ c rest
    (one_found 256 (λ n. n ∷ []) octet_at reads8 protocol_type Protocol (λ n. refl) (λ n p. p) octets c rest)
    (row_or kind local_port_type octets _ _ c rest
    (one_found (2 ^ 16) be16_octets (number_at 2 be16_at) reads16 local_port_type LocalPort (λ n. refl)
    (λ n p. p) octets c rest)
    (row_or kind local_range_type octets _ _ c rest
    (two_found (2 ^ 16) be16_octets (number_at 2 be16_at) reads16 local_range_type LocalRange (λ m n. refl)
    (λ m n p q. (p, q)) octets c rest)
    (row_or kind remote_port_type octets _ _ c rest
    (one_found (2 ^ 16) be16_octets (number_at 2 be16_at) reads16 remote_port_type RemotePort (λ n. refl)
    (λ n p. p) octets c rest)
    (row_or kind remote_range_type octets _ _ c rest
    (two_found (2 ^ 16) be16_octets (number_at 2 be16_at) reads16 remote_range_type RemoteRange (λ m n. refl)
    (λ m n p q. (p, q)) octets c rest)
    (row_or kind spi_type octets _ _ c rest
    (one_found (2 ^ 32) be32_octets (number_at 4 be32_at) reads32 spi_type Spi (λ n. refl) (λ n p. p) octets c rest)
    (row_or kind tos_type octets _ _ c rest
    (two_found 256 (λ n. n ∷ []) octet_at reads8 tos_type Tos (λ m n. refl) (λ m n p q. (p, q)) octets c rest)
    (λ nothing. absurd cc))))))))) e

one_again : (limit : ℕ) (text : ℕ → List ℕ) (at : List ℕ → Option (ℕ × List ℕ)) → IsReader limit text at
    → (make : ℕ → Component) (n : ℕ) (rest : List ℕ) → n < limit → one at make (text n ++ rest) ≡ Some (make n, rest)
one_again limit text at reader make n rest lt = rw (reader.again n rest lt) refl

two_again : (limit : ℕ) (text : ℕ → List ℕ) (at : List ℕ → Option (ℕ × List ℕ)) → IsReader limit text at
    → (make : ℕ → ℕ → Component) (m n : ℕ) (rest : List ℕ) → m < limit → n < limit
    → two at make ((text m ++ text n) ++ rest) ≡ Some (make m n, rest)
two_again limit text at reader make m n rest small_m small_n =
    let regrouped : (text m ++ text n) ++ rest ≡ text m ++ (text n ++ rest) = append_assoc (text m) (text n) rest in
    ap (two at make) regrouped ∙ rw (reader.again m (text n ++ rest) small_m, reader.again n rest small_n) refl

pub component_again : (c : Component) (rest : List ℕ) → IsComponent c
    → component_of (type_octet c) ((row c).1 ++ rest) ≡ Some (c, rest)
unfolding component_of
component_again (RemoteAddr address mask) rest fits =
    two_again (2 ^ 32) be32_octets (number_at 4 be32_at) reads32 RemoteAddr address mask rest fits.0 fits.1
component_again (LocalAddr address mask) rest fits =
    two_again (2 ^ 32) be32_octets (number_at 4 be32_at) reads32 LocalAddr address mask rest fits.0 fits.1
component_again (Protocol number) rest fits = one_again 256 (λ n. n ∷ []) octet_at reads8 Protocol number rest fits
component_again (LocalPort port) rest fits =
    one_again (2 ^ 16) be16_octets (number_at 2 be16_at) reads16 LocalPort port rest fits
component_again (LocalRange low high) rest fits =
    two_again (2 ^ 16) be16_octets (number_at 2 be16_at) reads16 LocalRange low high rest fits.0 fits.1
component_again (RemotePort port) rest fits =
    one_again (2 ^ 16) be16_octets (number_at 2 be16_at) reads16 RemotePort port rest fits
component_again (RemoteRange low high) rest fits =
    two_again (2 ^ 16) be16_octets (number_at 2 be16_at) reads16 RemoteRange low high rest fits.0 fits.1
component_again (Spi spi) rest fits = one_again (2 ^ 32) be32_octets (number_at 4 be32_at) reads32 Spi spi rest fits
component_again (Tos value mask) rest fits =
    two_again 256 (λ n. n ∷ []) octet_at reads8 Tos value mask rest fits.0 fits.1
