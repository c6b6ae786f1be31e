-- Which bits of a word a dropout spoils: those of a missing point's number, which come back as 0; and bit 2, where the symbol or the one before
-- it was missing whole. All other bits come back as they were sent.
--   spoiled u unsure r i n     the word n as it comes back: r is what was heard of its symbol, and i stands for bit 2 where that is unsure
--   CameBack u lost rs ns ws   the words ns came back as ws, one for each received symbol of rs; `lost` says that the symbol before them was
--                              missing whole. The words ns may go on after rs
use Rattle.std.specs.Prelude.{◌≡◌, Bool, cond, ◌||◌, List, [], ◌∷◌, ℕ, ◌<◌}
use Rattle.wei.specs.Word.{unpacked, packed}
use Rattle.trellis.specs.Measure.{Two}
use Rattle.nearest.specs.declared.Received.{Received}
use Rattle.dropouts.specs.Gaps.{is_missing, lost_both}

-- "every word is the word sent but for: the bits of a missing point's number, which are 0; and where both were missing, bit 2 of that word and of the next".
-- So I1 and I2, bits 0 and 1, are never touched, and a word whose symbol is whole, after one that was not missing whole, is not spoiled (`as-sent`, proofs/Back)
abbrev pub spoiled : ℕ → Bool → Two Received → ℕ → ℕ → ℕ
spoiled u unsure r i n =
    let p = unpacked u n in
    packed u (record {
      i1 = p.i1;
      i2 = p.i2;
      i3 = cond unsure i p.i3;
      w1 = cond (is_missing r.first) 0 p.w1;
      w2 = cond (is_missing r.second) 0 p.w2;
    })

-- bit 2 is I3, which is measured from the symbol before
abbrev pub CameBack : ℕ → Bool → List (Two Received) → List ℕ → List ℕ → Type 0
CameBack u lost [] ns [] = Unit {0}
CameBack u lost [] ns (w ∷ ws) = ⊥
CameBack u lost (r ∷ rs) [] ws = ⊥
CameBack u lost (r ∷ rs) (n ∷ ns) [] = ⊥
CameBack u lost (r ∷ rs) (n ∷ ns) (w ∷ ws) = ((i : ℕ) × (i < 2) × (w ≡ spoiled u (lost || lost_both r) r i n)) × CameBack u (lost_both r) rs ns ws
