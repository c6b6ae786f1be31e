-- `put_record`: by the mark, the record of a symbol or of one of which points are missing.
use Rattle.std.proofs.Common.{sym, ap, ◌∙◌, ℕ, List, [], ◌∷◌, ◌++◌, get_or, length, drop, arith}
use lib.IntN.{pos}
use Rattle.receiver_meaning.specs.Piece.{first_missing, second_missing}
use Rattle.records.specs.Values.{Entry, marked_entry, bytes_of}
use Rattle.record_write.proofs.Fronts.{small-bits, kept-reads, kept_small, small-first, small-second, small-heard, marked-record, nine-bytes, ten-bytes}
use Rattle.record_write.proofs.put_record.Goals as goal

-- a record at the front of the bytes
abbrev at_front : List ℕ → Entry → List ℕ
at_front l r = bytes_of (r ∷ []) ++ drop (length (bytes_of (r ∷ []))) l

pub put_symbol-requires : goal.put_symbol-requires
put_symbol-requires c =
    let m = c.args.mark in
    let xs = c.args.four.now in
    let t = small-heard m xs c.if-mark-eq0.true c.requires.1 in
    let at = (λ (i : ℕ). get_or xs i (pos 0)) in
    (omega (arith, c.requires.2, nine-bytes m xs c.if-mark-eq0.true), small-bits (at 0) t.0, small-bits (at 1) t.1, small-bits (at 2) t.2, small-bits (at 3) t.3)

pub put_marked-requires : goal.put_marked-requires
put_marked-requires c =
    let m = c.args.mark in
    let xs = c.args.four.now in
    let f = small-first m xs c.requires.1 in
    let g = small-second m xs c.requires.1 in
    let at = (λ (i : ℕ). get_or xs i (pos 0)) in (
      omega (arith, c.requires.2, ten-bytes m xs c.if-mark-eq0.false),
      kept_small (first_missing m) (at 0) _ f.0 c.heard-x0.ensures,
      kept_small (first_missing m) (at 1) _ f.1 c.heard-x1.ensures,
      kept_small (second_missing m) (at 2) _ g.0 c.heard-x2.ensures,
      kept_small (second_missing m) (at 3) _ g.1 c.heard-x3.ensures,
    )

pub returns : goal.returns
returns c =
    let m = c.args.mark in
    let xs = c.args.four.now in
    let f = small-first m xs c.requires.1 in
    let g = small-second m xs c.requires.1 in
    let at = (λ (i : ℕ). get_or xs i (pos 0)) in
    let k0 = kept-reads (first_missing m) (at 0) _ f.0 c.heard-x0.ensures in
    let k1 = kept-reads (first_missing m) (at 1) _ f.1 c.heard-x1.ensures in
    let k2 = kept-reads (second_missing m) (at 2) _ g.0 c.heard-x2.ensures in
    let k3 = kept-reads (second_missing m) (at 3) _ g.1 c.heard-x3.ensures in
    c.put_marked.ensures
    ∙ ap (at_front c.args.bytes.now)
    ((λ i. marked_entry (c.one_of_four.ensures i) (k0 i) (k1 i) (k2 i) (k3 i)) ∙ sym (marked-record m xs c.if-mark-eq0.false))
