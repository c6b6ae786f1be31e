-- One record more, for each of the notions that go record by record: a word; a record that is taken; one that is refused.
--   kept_word, kept-taken, kept-refused; mended-word, mended-head; grouped-word, grouped-head
--   space-more   how many bytes there are with it
use mathlib.Core.Path.{◌≡◌}
use mathlib.Core.Bool.{true, false}
use mathlib.Core.List.{List, [], ◌∷◌, ◌++◌}
use Prim.Native.Nat.{ℕ, ◌+◌}
use native.Mathlib.Omega.{arith}
use lib.ListN.{length, length-append}
use Rattle.records.specs.Values.{Entry, word_of, bytes_of}
use Rattle.record_write.specs.Front.{word_entries}
use Rattle.replay.specs.Meaning.{Line, agreed}
use Rattle.salvage_meaning.specs.Salvage.{is_word, running, kept, mended, grouped}

module _ (l : Line) (r : Entry) (rs : List Entry) where
  pub kept_word : is_word r ≡ true → kept l (r ∷ rs) ≡ r ∷ kept l rs
  unfolding kept
  kept_word h = rw h

  pub kept-taken : is_word r ≡ false → agreed (running l r).verdict ≡ true → kept l (r ∷ rs) ≡ r ∷ kept (running l r).line rs
  unfolding kept
  kept-taken h e = rw (h, e)

  pub kept-refused : is_word r ≡ false → agreed (running l r).verdict ≡ false → kept l (r ∷ rs) ≡ []
  unfolding kept
  kept-refused h e = rw (h, e)

  pub mended-word : is_word r ≡ true → mended l (r ∷ rs) ≡ mended l rs
  unfolding mended
  mended-word h = rw h

  pub mended-head : is_word r ≡ false → mended l (r ∷ rs) ≡ r ∷ (word_entries (running l r).due ++ mended (running l r).line rs)
  unfolding mended
  mended-head h = rw h

module _ (r : Entry) (rs : List Entry) where
  pub grouped-word : is_word r ≡ true → grouped (r ∷ rs) ≡ record { front = word_of r.body ∷ (grouped rs).front; later = (grouped rs).later }
  unfolding grouped
  grouped-word h = rw h

  pub grouped-head : is_word r ≡ false → grouped (r ∷ rs) ≡ record { front = []; later = (grouped rs).front ∷ (grouped rs).later }
  unfolding grouped
  grouped-head h = rw h

  pub space-more : (n : ℕ) → length r.body ≡ n → length (bytes_of (r ∷ rs)) ≡ 1 + n + length (bytes_of rs)
  unfolding bytes_of
  space-more n e = omega (arith, length-append r.body (bytes_of rs), e)
