-- The words of what a recorder writes: a symbol's records hold the words that it released, a finish's those that it wrote, an open's none.
--   words_append    records one after the other
--   entry-words     records of words
--   symbol-words, finish-words, open-words
use mathlib.Core.Path.{◌≡◌, refl, ap, ap₂, ◌∙◌}
use mathlib.Core.Bool.{Bool, true, false, cond}
use mathlib.Core.List.{List, [], ◌∷◌, ◌++◌}
use Prim.Native.Nat.{ℕ, ◌<◌}
use lib.Dec.{eqb}
use Rattle.trellis.specs.Lists.{Every}
use Rattle.trellis.specs.Measure.{Two}
use Rattle.nearest.specs.declared.Received.{Received}
use Rattle.points.specs.declared.Map.{Map}
use Rattle.points.specs.declared.Map.TheVariants.{Round, Square}
use Rattle.points.specs.declared.Accord.{Accord}
use Rattle.records.specs.declared.Role.{Role}
use Rattle.records.specs.declared.Role.TheVariants.{Open, Symbol, Word, Finish, Unknown}
use Rattle.records.specs.Kinds.{kind_of}
use Rattle.records.specs.Values.{Entry, open_entry, symbol_entry, marked_entry}
use Rattle.records.proofs.Back.{word_back}
use Rattle.distance.specs.declared.Spot.{Spot}
use Rattle.record_write.specs.Front.{symbol_records, finish_records, word_entries, mark_for, spot_of}
use Rattle.recorder_meaning.specs.WordsIn.{words_after, words_of}

after-append : (r : Role) (body ws vs : List ℕ) → words_after r body (ws ++ vs) ≡ words_after r body ws ++ vs
after-append Word body ws vs = refl
after-append Open body ws vs = refl
after-append Symbol body ws vs = refl
after-append Finish body ws vs = refl
after-append Unknown body ws vs = refl

pub words_append : (rs qs : List Entry) → words_of (rs ++ qs) ≡ words_of rs ++ words_of qs
unfolding words_of
words_append [] qs = refl
words_append (r ∷ rs) qs = ap (words_after (kind_of r.kind).role r.body) (words_append rs qs) ∙ after-append (kind_of r.kind).role r.body (words_of rs) (words_of qs)

pub entry-words : (ws : List ℕ) → Every (λ w. w < 4294967296) ws → words_of (word_entries ws) ≡ ws
unfolding words_of kind_of
entry-words [] h = refl
entry-words (w ∷ ws) h = ap₂ (λ (x : ℕ) (xs : List ℕ). x ∷ xs) (word_back w h.0) (entry-words ws h.1)

pub symbol-words : (y : Two Received) (ws : List ℕ) → Every (λ w. w < 4294967296) ws → words_of (symbol_records y ws) ≡ ws
unfolding words_of kind_of
symbol-words y ws h = go (eqb (mark_for y) 0)
  where
    p : Spot
    p = spot_of y.first

    q : Spot
    q = spot_of y.second

    go : (b : Bool) → words_of (cond b (symbol_entry p.x p.y q.x q.y) (marked_entry (mark_for y) p.x p.y q.x q.y) ∷ word_entries ws) ≡ ws
    go true = entry-words ws h
    go false = entry-words ws h

pub finish-words : (ws : List ℕ) → Every (λ w. w < 4294967296) ws → words_of (finish_records ws) ≡ ws
unfolding words_of kind_of
finish-words ws h = entry-words ws h

pub open-words : (k : Accord) (w s : ℕ) → words_of (open_entry k w s ∷ []) ≡ []
unfolding words_of kind_of
open-words k w s = go k.map
  where
    go : (n : Map) → words_of (open_entry (record { map = n; u = k.u }) w s ∷ []) ≡ []
    go Round = refl
    go Square = refl
