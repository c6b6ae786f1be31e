-- The words after each record that is no word, of what is written.
--   grouped-words   words in front of some records
--   mended-front    what is written has no word before the first other record
--   mended-words    the words after such a record are those that belong there
--   first-none      nor have records that may stand at the beginning of a capture
use mathlib.Core.Path.{◌≡◌, refl, ap, ap₂, ◌∙◌}
use mathlib.Core.Bool.{Bool, true, false}
use mathlib.Core.List.{List, [], ◌∷◌, ◌++◌, append-nil}
use Prim.Native.Nat.{ℕ}
use Rattle.records.specs.declared.Role.{Role}
use Rattle.records.specs.declared.Role.TheVariants.{Open, Symbol, Word, Finish, Unknown}
use Rattle.records.specs.declared.Phase.TheVariants.{Start}
use Rattle.records.specs.Kinds.{kind_of, may_stand}
use Rattle.records.specs.Values.{Entry, word_entry}
use Rattle.records.proofs.Back.{word_back}
use Rattle.record_write.specs.Front.{word_entries}
use Rattle.replay.specs.Meaning.{Line}
use Rattle.replay.proofs.Forms.{Formed}
use Rattle.salvage_meaning.specs.Salvage.{is_word_role, is_word, running, mended, Grouped, grouped}
use Rattle.salvage_meaning.proofs.Running.{false-true, Small}
use Rattle.salvage_meaning.proofs.Steps.{mended-word, mended-head, grouped-word, grouped-head}

word-is : (w : ℕ) → is_word (word_entry w) ≡ true
unfolding kind_of
word-is w = refl

pub grouped-words : (ws : List ℕ) (qs : List Entry) → Small ws → grouped (word_entries ws ++ qs) ≡ record { front = ws ++ (grouped qs).front; later = (grouped qs).later }
grouped-words [] qs h = refl
grouped-words (w ∷ ws) qs h =
    let g : grouped (word_entries ws ++ qs) ≡ _ = grouped-words ws qs h.1 in
    grouped-word (word_entry w) (word_entries ws ++ qs) (word-is w)
    ∙ ap₂ (λ (v : ℕ) (x : Grouped). record { front = v ∷ x.front; later = x.later }) (word_back w h.0) g

pub mended-front : (l : Line) (rs : List Entry) → (grouped (mended l rs)).front ≡ []
unfolding mended grouped
mended-front l [] = refl
mended-front l (r ∷ rs) = go (is_word r) refl (mended-front l rs)
  where
    go : (a : Bool) → is_word r ≡ a → (grouped (mended l rs)).front ≡ [] → (grouped (mended l (r ∷ rs))).front ≡ []
    go true h ih = ap (λ (qs : List Entry). (grouped qs).front) (mended-word l r rs h) ∙ ih
    go false h ih =
        ap (λ (qs : List Entry). (grouped qs).front) (mended-head l r rs h)
        ∙ ap (λ (x : Grouped). x.front) (grouped-head r (word_entries (running l r).due ++ mended (running l r).line rs) h)

pub mended-words : (l : Line) (r : Entry) (rs : List Entry) → is_word r ≡ false → Small (running l r).due
    → (grouped (mended l (r ∷ rs))).later ≡ (running l r).due ∷ (grouped (mended (running l r).line rs)).later
mended-words l r rs h small =
    let ws = (running l r).due in
    let qs = mended (running l r).line rs in
    let e : ws ++ (grouped qs).front ≡ ws = ap (λ (x : List ℕ). ws ++ x) (mended-front (running l r).line rs) ∙ append-nil ws in
    ap (λ (x : List Entry). (grouped x).later) (mended-head l r rs h)
    ∙ ap (λ (x : Grouped). x.later) (grouped-head r (word_entries ws ++ qs) h)
    ∙ ap (λ (x : Grouped). x.front ∷ x.later) (grouped-words ws qs small)
    ∙ ap (λ (x : List ℕ). x ∷ (grouped qs).later) e

pub first-none : (rs : List Entry) → Formed Start rs → (grouped rs).front ≡ []
unfolding grouped
first-none [] f = refl
first-none (r ∷ rs) f = ap (λ (x : Grouped). x.front) (grouped-head r rs (go (kind_of r.kind).role f.0))
  where
    go : (ro : Role) → may_stand Start ro ≡ true → is_word_role ro ≡ false
    go Open s = refl
    go Symbol s = refl
    go Word s = absurd (false-true s)
    go Finish s = refl
    go Unknown s = refl
