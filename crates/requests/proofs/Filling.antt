-- How the four fields of a card, read one after another, are the card that the tokens write.
--   bad₁, .., bad₄    a field that is none decides
--   too_long, all_read   all four are read: they are a card if no token is left
--   sized             lists of these sizes are those of n symbols
use Prim.Native.Nat.{ℕ, ◌+◌, ◌*◌, ◌≤◌, ◌<◌}
use mathlib.Core.Path.{◌≡◌, refl, sym, ap, ◌∙◌}
use mathlib.Core.List.{List, [], ◌∷◌}
use borrow.Author.Tests.{le-leb, lt-leb}
use lib.IntN.{ℤ}
use Rattle.std.specs.Prelude.{Option, Some, None}
use lib.ListN.{length, drop}
use Rattle.text.specs.Token.{tokens}
use Rattle.text.proofs.Tokens.{not-empty}
use Rattle.number_lists.specs.Many.{whole_in, number_in, wide_in}
use Rattle.line_fields.specs.Fields.{tokens_at, field_of, field_in, Gives}
use Rattle.card.specs.Card.{Card}
use Rattle.card.specs.Promise.{card_of}
use Rattle.points.specs.declared.Accord.{Accord}
use Rattle.requests.specs.Asked.{Sizes, sizes, card_in, ended, verdict_on, checked_of}

pub field_at : {A : Type 0} {p : List ℕ → Option A} {s : List ℕ} {at n : ℕ} {r : Option ℕ} {list : List A} {q : ℕ} → Gives p s at n r list → r ≡ Some q →
    field_of p n (tokens_at s at) ≡ Some (record { values = list; rest = tokens_at s q })
field_at {s = s} {list = list} g e = sym g.field ∙ ap (field_in s list) e

pub field-bad : {A : Type 0} {p : List ℕ → Option A} {s : List ℕ} {at n : ℕ} {r : Option ℕ} {list : List A} → Gives p s at n r list → r ≡ None →
    field_of p n (tokens_at s at) ≡ None
field-bad {s = s} {list = list} g e = sym g.field ∙ ap (field_in s list) e

some_left : (c : Card) (ts : List (List ℕ)) → (length ts ≡ 0 → ⊥) → ended c ts ≡ None
some_left c [] h = absurd (h refl)
some_left c (t ∷ ts) h = refl

-- the lengths are those that were lent
long_as : {a b c d a' b' c' d' : ℕ} → a ≡ a' → b ≡ b' → c ≡ c' → d ≡ d' → sizes a b c d ≡ sizes a' b' c' d'
long_as e f g h = cc

-- the four fields of a card, whose lists are as long as what is lent for them
module _ {s : List ℕ} {at a : ℕ} (b c d : ℕ) {r₁ : Option ℕ} {xs : List ℤ} (g₁ : Gives whole_in s at a r₁ xs) where
  pub bad₁ : r₁ ≡ None → card_in (sizes a b c d) (tokens_at s at) ≡ None
  bad₁ e = rw (field-bad g₁ e)

  module _ {q₁ : ℕ} (e₁ : r₁ ≡ Some q₁) {r₂ : Option ℕ} {ss : List ℕ} (g₂ : Gives number_in s q₁ b r₂ ss) where
    pub bad₂ : r₂ ≡ None → card_in (sizes a b c d) (tokens_at s at) ≡ None
    bad₂ e = rw (field_at g₁ e₁, field-bad g₂ e)

    module _ {q₂ : ℕ} (e₂ : r₂ ≡ Some q₂) {r₃ : Option ℕ} {cs : List ℕ} (g₃ : Gives number_in s q₂ c r₃ cs) where
      pub bad₃ : r₃ ≡ None → card_in (sizes a b c d) (tokens_at s at) ≡ None
      bad₃ e = rw (field_at g₁ e₁, field_at g₂ e₂, field-bad g₃ e)

      module _ {q₃ : ℕ} (e₃ : r₃ ≡ Some q₃) {r₄ : Option ℕ} {ns : List ℕ} (g₄ : Gives wide_in s q₃ d r₄ ns) where
        pub bad₄ : r₄ ≡ None → card_in (sizes a b c d) (tokens_at s at) ≡ None
        bad₄ e = rw (field_at g₁ e₁, field_at g₂ e₂, field_at g₃ e₃, field-bad g₄ e)

        module _ {q₄ : ℕ} (e₄ : r₄ ≡ Some q₄) where
          read : card_in (sizes a b c d) (tokens_at s at) ≡ ended (card_of xs ss cs ns) (tokens_at s q₄)
          read = rw (field_at g₁ e₁, field_at g₂ e₂, field_at g₃ e₃, field_at g₄ e₄)

          -- a token is left
          pub too_long : q₄ ≤ length s → card_in (sizes a b c d) (tokens_at s at) ≡ None
          too_long h = read ∙ rw (le-leb q₄ (length s) h) (some_left (card_of xs ss cs ns) (tokens (drop q₄ s)) (not-empty (drop q₄ s)))

          pub all_read : length s < q₄ → card_in (sizes a b c d) (tokens_at s at) ≡ Some (card_of xs ss cs ns)
          all_read h = read ∙ rw (lt-leb q₄ (length s) h)

pub sized : (k : Accord) (n : ℕ) (ts : List (List ℕ)) {a b c d : ℕ} → a ≡ 4 * n → b ≡ n + 1 → c ≡ 6 * n → d ≡ 16 * (n + 1) →
    verdict_on k (card_in (sizes a b c d) ts) ≡ checked_of k n ts
sized k n ts e f g h = ap (λ (z : Sizes). verdict_on k (card_in z ts)) (long_as e f g h)
