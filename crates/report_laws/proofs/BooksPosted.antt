-- What may happen to a book can be posted to it: there is a book behind it.
use Rattle.std.proofs.Common.{◌≡◌, ◌≢◌, ℕ, ◌<◌, Bool, true, false, List, [], ◌∷◌, ◌++◌, length, set, get_or, All, Contains, refl, sym, ap, ◌∙◌, subst, arith, append_assoc}
use Rattle.std.specs.List.{remove}
use Rattle.std.proofs.lemmas.List.{append-nil, get_or_default, length-map}
use Rattle.charging_book.specs.declared.records.Why.{Why}
use Rattle.charging_book.specs.declared.records.Why.TheVariants.{Volume, Qos, Gone}
use Rattle.charging_book.specs.Rows.{Counters, Moments}
use Rattle.charging_book.specs.Pieces.{Forwarded, open_of}
use Rattle.charging_book.specs.Counters.{next_piece, no_moments, row_from, with_moment, with_packet}
use Rattle.charging_book.specs.Happenings.{AllMay, Happening, MayHappen, closed, forwarded, lives_of, moments_at, open_at, started}
use Rattle.charging_book.specs.Accounts.{Accounts, AreDistinct, StandsFor, lives_in}
use Rattle.charging_book.specs.Posted.{GoesFar, GoesOn, fill, pieces_behind, rows_after, rows_made}
use Rattle.charging_book.proofs.PostedLemmas.{goes-counted, goes-filled, goes-gone, goes-marked, goes-started}
use Rattle.charging_book.proofs.Standing.{IsAt, lives-marked, lives-stand, stands-counted, stands-filled, stands-gone, stands-marked, stands-started}
use Rattle.charging_book.proofs.Steps.{lives-distinct}

-- a book behind one happening more · behind more of them
record PostsOne (old : Accounts) (happened : List Happening) (taken : ℕ) (now : Happening) : Type 0 where
  new : Accounts
  stands : StandsFor new (happened ++ now ∷ []) taken
  goes : GoesOn old new now

pub record Posts (old : Accounts) (happened : List Happening) (taken : ℕ) (more : List Happening) : Type 0 where
  pub new : Accounts
  pub stands : StandsFor new (happened ++ more) taken
  pub goes : GoesFar old new more

-- where a life of the book stands
record Stood (book : Accounts) (life : ℕ) : Type 0 where
  place : ℕ
  counters : Counters
  moments : Moments
  at : IsAt book place life counters moments
  distinct : AreDistinct (lives_in book)
  there : Contains (lives_in book) life

life_stands : (book : Accounts) (happened : List Happening) (taken life : ℕ) → StandsFor book happened taken
    → Contains (lives_of happened) life → Stood book life
life_stands book happened taken life stands may =
    let lives = lives-stand book happened taken stands in
    let there : Contains (lives_in book) life = subst (λ xs. Contains xs life) (sym lives) may in
    let place = there.0 in
    let none : Counters = open_of life 0 0 0 [] in
    let inside : place < length book.opens =
    omega (arith, there.1, length-map book.opens (λ (c : Counters). c.life)) in
    let spanned : place < length book.moments =
    omega (
      arith,
      inside,
      ap length stands.opens,
      ap length stands.moments,
      length-map (lives_of happened) (open_at happened),
      length-map (lives_of happened) (moments_at happened),
    ) in
    record {
      place = place;
      counters = get_or book.opens place none;
      moments = get_or book.moments place no_moments;
      at = record {
        within = inside;
        found = get_or_default (lives_in book) place 0 life there.1 ∙ there.2;
        counters_are = get_or_default book.opens place none (get_or book.opens place none) inside;
        moments_are = get_or_default book.moments place no_moments (get_or book.moments place no_moments) spanned;
      };
      distinct = subst AreDistinct (sym lives) (lives-distinct happened stands.lawful);
      there = there;
    }

-- a packet, whether it fills its piece or not
packet_posts : (book : Accounts) (happened : List Happening) (taken life : ℕ) (p : Forwarded)
    → StandsFor book happened taken → (stood : Stood book life) → (full : Bool)
    → fill (with_packet stood.counters p.up p.octets) ≡ full → PostsOne book happened taken (forwarded life p)
packet_posts book happened taken life p stands stood true full = record {
  new = record {
    opens = set book.opens stood.place (next_piece (with_packet stood.counters p.up p.octets));
    moments = set book.moments stood.place no_moments;
    rows = book.rows
        ++ row_from (with_packet stood.counters p.up p.octets) (with_moment stood.moments p.at) Volume ∷ [];
  };
  stands = stands-filled book _ happened taken life stood.place p stood.counters stood.moments stands stood.at
      stood.there full refl refl refl;
  goes = goes-filled book _ life stood.place p stood.counters stood.moments stood.distinct stood.at full refl refl refl;
}
packet_posts book happened taken life p stands stood false full = record {
  new = record {
    opens = set book.opens stood.place (with_packet stood.counters p.up p.octets);
    moments = set book.moments stood.place (with_moment stood.moments p.at);
    rows = book.rows;
  };
  stands = stands-counted book _ happened taken life stood.place p stood.counters stood.moments stands stood.at
      stood.there full refl refl refl;
  goes = goes-counted book _ life stood.place p stood.counters stood.moments stood.distinct stood.at full refl refl refl;
}

-- a mark behind which the life goes on
mark_posts : (book : Accounts) (happened : List Happening) (taken life : ℕ) (why : Why)
    → StandsFor book happened taken → Stood book life → why ≢ Gone → PostsOne book happened taken (closed life why)
mark_posts book happened taken life why stands stood other = record {
  new = record {
    opens = set book.opens stood.place (next_piece stood.counters);
    moments = set book.moments stood.place no_moments;
    rows = book.rows ++ row_from stood.counters stood.moments why ∷ [];
  };
  stands = stands-marked book _ happened taken life stood.place why stood.counters stood.moments stands stood.at
      stood.there (lives-marked (lives_of happened) life why other) refl refl refl;
  goes = goes-marked book _ life stood.place why stood.counters stood.moments stood.distinct stood.at other refl refl
      refl;
}

end_posts : (book : Accounts) (happened : List Happening) (taken life : ℕ) → StandsFor book happened taken
    → Stood book life → PostsOne book happened taken (closed life Gone)
end_posts book happened taken life stands stood = record {
  new = record {
    opens = remove book.opens stood.place;
    moments = remove book.moments stood.place;
    rows = book.rows ++ row_from stood.counters stood.moments Gone ∷ [];
  };
  stands = stands-gone book _ happened taken life stood.place stood.counters stood.moments stands stood.at stood.there
      refl refl refl;
  goes = goes-gone book _ life stood.place stood.counters stood.moments stood.distinct stood.at refl refl refl;
}

one_posts : (book : Accounts) (happened : List Happening) (taken : ℕ) (now : Happening)
    → StandsFor book happened taken → MayHappen happened now → PostsOne book happened taken now
one_posts book happened taken (started life ebi qci) stands may = record {
  new = record {
    opens = book.opens ++ open_of life ebi qci 0 [] ∷ [];
    moments = book.moments ++ no_moments ∷ [];
    rows = book.rows;
  };
  stands = stands-started book _ happened taken life ebi qci stands
      (subst (λ xs. All (λ other. other ≢ life) xs) (sym (lives-stand book happened taken stands)) may) refl refl refl;
  goes = goes-started book _ life ebi qci refl refl refl;
}
one_posts book happened taken (forwarded life p) stands may =
    let stood = life_stands book happened taken life stands may in
    packet_posts book happened taken life p stands stood (fill (with_packet stood.counters p.up p.octets)) refl
one_posts book happened taken (closed life Volume) stands may =
    mark_posts book happened taken life Volume stands (life_stands book happened taken life stands may) (λ is. cc)
one_posts book happened taken (closed life Qos) stands may =
    mark_posts book happened taken life Qos stands (life_stands book happened taken life stands may) (λ is. cc)
one_posts book happened taken (closed life Gone) stands may =
    end_posts book happened taken life stands (life_stands book happened taken life stands may)

-- one happening, and then others
goes_then : (old mid new : Accounts) (now : Happening) (later : List Happening) → GoesOn old mid now
    → GoesFar mid new later → GoesFar old new (now ∷ later)
goes_then old mid new now later first rest = record {
  pieces = λ pieces are may. rest.pieces (pieces_behind pieces now) (first.pieces pieces are) may.1;
  rows = λ pieces are may. rest.rows (pieces_behind pieces now) (first.pieces pieces are) may.1
      ∙ ap (λ rows. rows ++ rows_after (pieces_behind pieces now) later) (first.rows pieces are)
      ∙ append_assoc old.rows (rows_made pieces now) (rows_after (pieces_behind pieces now) later);
}

pub all_post : (book : Accounts) (happened more : List Happening) (taken : ℕ) → StandsFor book happened taken
    → AllMay happened more → Posts book happened taken more
all_post book happened [] taken stands may = record {
  new = book;
  stands = subst (λ all. StandsFor book all taken) (sym (append-nil happened)) stands;
  goes = record { pieces = λ pieces are _. are; rows = λ pieces are _. sym (append-nil book.rows) };
}
all_post book happened (now ∷ later) taken stands may =
    let first = one_posts book happened taken now stands may.0 in
    let rest = all_post first.new (happened ++ now ∷ []) later taken first.stands may.1 in
    record {
      new = rest.new;
      stands = subst (λ all. StandsFor rest.new all taken) (append_assoc happened (now ∷ []) later) rest.stands;
      goes = goes_then book first.new rest.new now later first.goes rest.goes;
    }
