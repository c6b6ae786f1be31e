-- A record and the words that belong there, put into a page.
--   size_is       how many bytes of its frame are a record's body, and that the frame has them
--   own_put       the record's own bytes
--   none-put      nothing stands to be written
--   words-put     the words behind them, where the rest of the page was lent
use mathlib.Core.Path.{◌≡◌, refl, sym, ap, subst, ◌∙◌}
use mathlib.Core.Bool.{Bool, true, false}
use mathlib.Core.List.{List, [], ◌∷◌, ◌++◌, append_assoc, append-nil}
use Prim.Native.Nat.{ℕ, ◌+◌, ◌-◌, ◌*◌, ◌≤◌, min}
use native.Mathlib.Omega.{arith}
use borrow.Author.Tests.{leb-true, leb-false}
use lib.Dec.{leb}
use lib.ListN.{length, take, drop, take-append-drop}
use lib.Seq.{take_all, drop-drop, length-take-le}
use Rattle.records.specs.declared.Kind.{Kind}
use Rattle.records.specs.declared.Frame.{Frame}
use Rattle.records.specs.Kinds.{kind_of}
use Rattle.records.specs.Values.{bytes_of}
use Rattle.records.specs.Frames.{entry_of}
use Rattle.records.proofs.Steps.{size_fits}
use Rattle.lists.proofs.Lent.{lent, back}
use Rattle.record_write.specs.Front.{word_entries, Fronted}
use Rattle.record_write.proofs.Fronts.{bytes-append, word_bytes}
use Rattle.page.specs.Page.{Puts}
use Rattle.page.proofs.Pages.{joined}
use Rattle.salvage.specs.Working.{standing}

pub record Sized (f : Frame) (k : Kind) : Type 0 where
  pub size : k.size ≡ (kind_of f.kind).size
  pub few : k.size ≤ 9
  pub long : length (take k.size f.body) ≡ k.size

pub size_is : (f : Frame) (k : Kind) → k ≡ kind_of f.kind → length f.body ≡ 9 → Sized f k
size_is f k e nine =
    let z : k.size ≡ (kind_of f.kind).size = ap (λ (x : Kind). x.size) e in
    let few : k.size ≤ 9 = omega (arith, size_fits f.kind) in
    record { size = z; few = few; long = length-take-le k.size f.body (omega arith) }

pub own_put : (f : Frame) (k : Kind) → Sized f k → (page page₁ page₂ : List ℕ) (at p r : ℕ) → at + 1 ≤ length page → Puts page at (f.kind ∷ []) p page₁
    → Puts page₁ p (take k.size f.body) r page₂ → Puts page at (bytes_of (entry_of f ∷ [])) r page₂
unfolding bytes_of
own_put f k s page page₁ page₂ at p r room a b =
    let z : take k.size f.body ≡ take (kind_of f.kind).size f.body ++ [] =
    ap (λ (n : ℕ). take n f.body) s.size ∙ sym (append-nil (take (kind_of f.kind).size f.body)) in
    subst (λ (t : List ℕ). Puts page at (f.kind ∷ t) r page₂) z (joined (omega (arith, a.next)) a b)

take-least : (n : ℕ) (l : List ℕ) → take (min n (length l)) l ≡ take n l
take-least n l = go (leb n (length l)) refl
  where
    go : (b : Bool) → leb n (length l) ≡ b → take (min n (length l)) l ≡ take n l
    go true e = let z : min n (length l) ≡ n = omega (arith, leb-true n (length l) e) in ap (λ (k : ℕ). take k l) z
    go false e =
        let h = leb-false n (length l) e in
        take_all (min n (length l)) l (omega (arith, h)) ∙ sym (take_all n l (omega (arith, h)))

pub none-put : (w : Bool) (f : Frame) (given : ℕ) (due page : List ℕ) (at : ℕ) → w ≡ false → Puts page at (bytes_of (standing w f given due)) at page
unfolding bytes_of
none-put w f given due page at e = rw e (record { next = omega arith; said = rw append-nil (sym (take-append-drop at page)) })

-- a page whose rest, from p on, was lent, and came back with words in front
rest_put : (page ws ys : List ℕ) (p : ℕ) → p ≤ length page → Fronted (word_entries ws) (take (length page - p) (drop p page)) ys
    → Puts page p (bytes_of (word_entries ws)) (p + 5 * length ws) (take p page ++ (ys ++ drop (length page - p) (drop p page)))
rest_put page ws ys p h e =
    let vs = bytes_of (word_entries ws) in
    let n : length vs ≡ 5 * length ws = word_bytes ws in
    record {
      next = ap (λ (k : ℕ). p + k) (sym n);
      said = back page (length page) p refl e ∙ rw (lent page (length page) p refl, drop-drop (length vs) p page, n) (sym (append_assoc (take p page) vs (drop (p + 5 * length ws) page)));
    }

pub words-put : (w : Bool) (f : Frame) (given n p at : ℕ) (due page page₁ ys : List ℕ) → w ≡ true → n ≡ min given (length due) → p ≤ length page → length page₁ ≡ length page
    → Puts page at (bytes_of (entry_of f ∷ [])) p page₁ → Fronted (word_entries (take n due)) (take (length page₁ - p) (drop p page₁)) ys
    → Puts page at (bytes_of (standing w f given due)) (p + 5 * n) (take p page₁ ++ (ys ++ drop (length page₁ - p) (drop p page₁)))
words-put w f given n p at due page page₁ ys e z room same a b =
    let long : length (take n due) ≡ n = length-take-le n due (omega arith) in
    let all : bytes_of (entry_of f ∷ []) ++ bytes_of (word_entries (take n due)) ≡ bytes_of (standing w f given due) =
    sym (bytes-append (entry_of f ∷ []) (word_entries (take n due))) ∙ ap (λ (l : List ℕ). bytes_of (entry_of f ∷ word_entries l)) (ap (λ (k : ℕ). take k due) z ∙ take-least given due) ∙ rw e in
    let last = take p page₁ ++ (ys ++ drop (length page₁ - p) (drop p page₁)) in
    let r : Puts page₁ p (bytes_of (word_entries (take n due))) (p + 5 * n) last =
    subst (λ (k : ℕ). Puts page₁ p (bytes_of (word_entries (take n due))) (p + 5 * k) last) long (rest_put page₁ (take n due) ys p (omega arith) b) in
    subst (λ (t : List ℕ). Puts page at t (p + 5 * n) last) all (joined room a r)
