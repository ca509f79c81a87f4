-- Whatever is counted of packets, the rows and open counters of a life have it of all its packets.
use Rattle.std.proofs.Common.{◌≡◌, ℕ, ◌+◌, true, false, not, List, [], ◌∷◌, sum_by, sym, ◌∙◌, ap, refl, arith, add-zero, if◌then◌else◌}
use Rattle.std.proofs.lemmas.List.Sums.{sum_by-cons, sum_by-append}
use Rattle.charging_book.specs.Rows.{Counters, Charged}
use Rattle.charging_book.specs.Pieces.{Forwarded, Finished, open_of, row_of}
use Rattle.charging_book.specs.Happenings.{Happening, opens_of, rows_of, IsLawful}
use Rattle.charging_book.specs.Ledger.{packets_of, rows_for, opens_for, TellPieces, TellLast, EachOctetOnce, EachPacketOnce}
use Rattle.charging_book.proofs.Pieces.{joined}
use Rattle.charging_book.proofs.Partition.{ledgers_are_partitions}

-- what a row, open counters and packets have of what is counted
module _ (of_row : Charged → ℕ) (of_counters : Counters → ℕ) (weight : Forwarded → ℕ)
    (row_has : (life ebi qci seq : ℕ) (done : Finished)
    → of_row (row_of life ebi qci seq done) ≡ sum_by weight done.piece)
    (counters_have : (life ebi qci seq : ℕ) (piece : List Forwarded)
    → of_counters (open_of life ebi qci seq piece) ≡ sum_by weight piece) where
  rows_have : (rows : List Charged) (pieces : List Finished) → TellPieces rows pieces
      → sum_by of_row rows ≡ sum_by weight (joined pieces)
  rows_have [] [] tell = refl
  rows_have [] (done ∷ pieces) tell = absurd tell
  rows_have (row ∷ rows) [] tell = absurd tell
  rows_have (row ∷ rows) (done ∷ pieces) tell =
      let first : of_row row ≡ sum_by weight done.piece = ap of_row tell.0
      ∙ row_has row.life row.ebi row.qci row.seq done in
      omega (
        arith,
        sum_by-cons of_row row rows,
        first,
        rows_have rows pieces tell.1,
        sum_by-append weight done.piece (joined pieces),
      )

  opens_have : (opens : List Counters) (last : List Forwarded) → TellLast opens last
      → sum_by of_counters opens ≡ sum_by weight last
  opens_have [] last tell = ap (sum_by weight) (sym tell)
  opens_have (counters ∷ []) last tell =
      sum_by-cons of_counters counters []
      ∙ add-zero (of_counters counters)
      ∙ ap of_counters tell ∙ counters_have counters.life counters.ebi counters.qci counters.seq last
  opens_have (counters ∷ other ∷ opens) last tell = absurd tell

  pub counted_once : (happened : List Happening) (life : ℕ) → IsLawful happened
      → sum_by of_row (rows_for life (rows_of happened)) + sum_by of_counters (opens_for life (opens_of happened))
      ≡ sum_by weight (packets_of life happened)
  counted_once happened life lawful =
      let parts = ledgers_are_partitions happened life lawful in
      omega (
        arith,
        rows_have (rows_for life (rows_of happened)) parts.pieces parts.rows,
        opens_have (opens_for life (opens_of happened)) parts.last parts.counters,
        sum_by-append weight (joined parts.pieces) parts.last,
        ap (sum_by weight) parts.packets,
      )

pub each_octet_once : EachOctetOnce
each_octet_once happened true life lawful =
    counted_once (λ row. row.up_octets) (λ counters. counters.up_octets) (λ p. if p.up then p.octets else 0)
    (λ life ebi qci seq done. refl) (λ life ebi qci seq piece. refl) happened life lawful
each_octet_once happened false life lawful =
    counted_once (λ row. row.down_octets) (λ counters. counters.down_octets) (λ p. if p.up then 0 else p.octets)
    (λ life ebi qci seq done. refl) (λ life ebi qci seq piece. refl) happened life lawful

pub each_packet_once : EachPacketOnce
each_packet_once happened true life lawful =
    counted_once (λ row. row.up_packets) (λ counters. counters.up_packets) (λ p. if p.up then 1 else 0)
    (λ life ebi qci seq done. refl) (λ life ebi qci seq piece. refl) happened life lawful
each_packet_once happened false life lawful =
    counted_once (λ row. row.down_packets) (λ counters. counters.down_packets) (λ p. if not p.up then 1 else 0)
    (λ life ebi qci seq done. refl) (λ life ebi qci seq piece. refl) happened life lawful
