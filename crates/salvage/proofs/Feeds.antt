-- Bytes are a fold of the byte step, and the byte step is that of `records` with `record` behind it.
--   Both, minds b rs, wrotes b rs   state and counts after some records, and what is written for them
--   feedings-follow, outs-follow    what bytes do: the frame after them, and the records that became whole
--   feedings-append, outs-append    bytes in two lumps are the bytes in one
--   settles-yes                     the record of a frame that is whole
--   Going ..                        so far in a lump: what is held, and what the page has
--   going-none, going_on            the loop over a lump
--   feeds-some, feeds-settled       a page of 335 bytes takes a byte; any two results are equal
use mathlib.Core.Path.{◌≡◌, refl, sym, ap, ap₂, subst, ◌∙◌}
use mathlib.Core.Bool.{Bool, true, false}
use mathlib.Core.List.{List, [], ◌∷◌, ◌++◌, append_assoc, append-nil}
use Prim.Native.Nat.{ℕ, zero, suc, ◌+◌, ◌-◌, ◌≤◌, ◌<◌}
use native.Mathlib.Omega.{arith}
use borrow.Author.Tests.{ltb-true, ltb-false}
use lib.Dec.{ltb}
use lib.ListN.{length, take, drop, length-append, length-drop}
use lib.Seq.{take-add}
use Rattle.records.specs.declared.Stage.{Stage}
use Rattle.records.specs.declared.Stage.TheVariants.{Fresh, Part, Whole, Bad}
use Rattle.records.specs.declared.Frame.{Frame}
use Rattle.records.specs.Values.{Entry, entry, bytes_of}
use Rattle.records.specs.Frames.{pushed, entry_of, Read, following, ended}
use Rattle.record_fill.specs.Runs.{Advances}
use Rattle.record_fill.proofs.Gathers.{run_none}
use Rattle.record_write.specs.Front.{space_of}
use Rattle.record_write.proofs.Fronts.{bytes-append}
use Rattle.page.specs.Page.{Puts}
use Rattle.page.proofs.Pages.{joined, one-result}
use Rattle.replay_judge.specs.Judging.{State}
use Rattle.replay.specs.Course.{is_whole}
use Rattle.replay.proofs.Feeds.{runs}
use Rattle.salvage.specs.declared.record.Tally.{Tally}
use Rattle.salvage.specs.Taking.{Minded, minded}
use Rattle.salvage.proofs.Takes.{minded-own}
use Rattle.salvage.specs.Working.{Held, settled, settled_at, held_by, stepped, feedings, written, written_at, outs, Feeds}

-- ---- records

pub record Both : Type 0 where
  pub state : State
  pub tally : Tally

abbrev pub both : State → Tally → Both
both s t = record { state = s; tally = t }

abbrev pub both_of : Minded → Both
both_of m = both m.state m.tally

abbrev pub minded_by : Both → Entry → Minded
minded_by b r = minded b.state b.tally r

unfoldable pub minds : Both → List Entry → Both
minds b [] = b
minds b (r ∷ rs) = minds (both_of (minded_by b r)) rs

unfoldable pub wrotes : Both → List Entry → List Entry
wrotes b [] = []
wrotes b (r ∷ rs) = written (minded_by b r) r ++ wrotes (both_of (minded_by b r)) rs

pub minds-append : (b : Both) (xs ys : List Entry) → minds (minds b xs) ys ≡ minds b (xs ++ ys)
unfolding minds
minds-append b [] ys = refl
minds-append b (x ∷ xs) ys = minds-append (both_of (minded_by b x)) xs ys

pub wrotes-append : (b : Both) (xs ys : List Entry) → wrotes b xs ++ wrotes (minds b xs) ys ≡ wrotes b (xs ++ ys)
unfolding minds wrotes
wrotes-append b [] ys = refl
wrotes-append b (x ∷ xs) ys =
    let c = both_of (minded_by b x) in
    append_assoc (written (minded_by b x) x) (wrotes c xs) (wrotes (minds c xs) ys) ∙ ap (λ (l : List Entry). written (minded_by b x) x ++ l) (wrotes-append c xs ys)

settled-minds : (t : Stage) (b : Both) (g : Frame) → both_of (settled (is_whole t) b.state b.tally (entry_of g)) ≡ minds b (ended t g)
unfolding settled minds
settled-minds Fresh b g = refl
settled-minds Part b g = refl
settled-minds Whole b g = refl
settled-minds Bad b g = refl

settled-wrotes : (t : Stage) (b : Both) (g : Frame) → written (settled (is_whole t) b.state b.tally (entry_of g)) (entry_of g) ≡ wrotes b (ended t g)
unfolding settled wrotes
settled-wrotes Fresh b g = refl
settled-wrotes Part b g = refl
settled-wrotes Whole b g = sym (append-nil (written (minded_by b (entry_of g)) (entry_of g)))
settled-wrotes Bad b g = refl

-- ---- bytes

abbrev pub holding : Frame → Both → Held
holding f b = record { frame = f; state = b.state; tally = b.tally }

abbrev pub beside : Held → Both
beside h = both h.state h.tally

pub feedings-follow : (f : Frame) (b : Both) (bs : List ℕ) → feedings (holding f b) bs ≡ holding (following f bs).frame (minds b (following f bs).entries)
unfolding feedings following minds stepped
feedings-follow f b [] = refl
feedings-follow f b (x ∷ bs) =
    let g = pushed f x in
    ap (λ (c : Both). feedings (holding g c) bs) (settled-minds g.stage b g)
    ∙ feedings-follow g (minds b (ended g.stage g)) bs
    ∙ ap (λ (c : Both). holding (following g bs).frame c) (minds-append b (ended g.stage g) (following g bs).entries)

pub outs-follow : (f : Frame) (b : Both) (bs : List ℕ) → outs (holding f b) bs ≡ wrotes b (following f bs).entries
unfolding outs following wrotes stepped written_at
outs-follow f b [] = refl
outs-follow f b (x ∷ bs) =
    let g = pushed f x in
    ap₂ (λ (l : List Entry) (c : Both). l ++ outs (holding g c) bs) (settled-wrotes g.stage b g) (settled-minds g.stage b g)
    ∙ ap (λ (l : List Entry). wrotes b (ended g.stage g) ++ l) (outs-follow g (minds b (ended g.stage g)) bs)
    ∙ wrotes-append b (ended g.stage g) (following g bs).entries

pub feedings-append : (h : Held) (xs ys : List ℕ) → feedings h (xs ++ ys) ≡ feedings (feedings h xs) ys
unfolding feedings
feedings-append h [] ys = refl
feedings-append h (x ∷ xs) ys = feedings-append (stepped h x) xs ys

pub outs-append : (h : Held) (xs ys : List ℕ) → outs h (xs ++ ys) ≡ outs h xs ++ outs (feedings h xs) ys
unfolding feedings outs
outs-append h [] ys = refl
outs-append h (x ∷ xs) ys =
    ap (λ (l : List Entry). written_at h x ++ l) (outs-append (stepped h x) xs ys)
    ∙ sym (append_assoc (written_at h x) (outs (stepped h x) xs) (outs (feedings (stepped h x) xs) ys))

-- ---- the record that they made whole

module _ (s : State) (t : Tally) (f : Frame) (m : Minded) where
  pub settles-yes : is_whole f.stage ≡ true → m ≡ minded s t (entry f.kind f.body) → m ≡ settled (is_whole f.stage) s t (entry_of f)
  unfolding settled
  settles-yes e z = rw e (z ∙ minded-own s t f.kind f.body)

-- ---- the loop

pub record Going (h₀ : Held) (bs page₀ : List ℕ) (h : Held) (page : List ℕ) (i at : ℕ) : Type 0 where
  pub few : i ≤ length bs
  pub held : h ≡ feedings h₀ (take i bs)
  pub wrote : Puts page₀ 0 (bytes_of (outs h₀ (take i bs))) at page
  pub fits : at ≤ length page₀
  pub room : (k : ℕ) → k < i → space_of (outs h₀ (take k bs)) + 335 ≤ length page₀

pub going-none : (h : Held) (bs page : List ℕ) → Going h bs page h page 0 0
unfolding feedings outs bytes_of
going-none h bs page =
    record { few = omega arith; held = refl; wrote = record { next = refl; said = refl }; fits = omega arith; room = λ k l. absurd (omega arith) }

module _ (h₀ : Held) (bs page₀ : List ℕ) (h : Held) (page : List ℕ) (i at : ℕ) (g : Going h₀ bs page₀ h page i at) where
  pub going-long : length page ≡ length page₀
  going-long =
      let text = bytes_of (outs h₀ (take i bs)) in
      ap length g.wrote.said ∙ length-append text (drop at page₀) ∙ omega (arith, length-drop at page₀, g.wrote.next, g.fits)

  -- one run of bytes more, and the record that they made whole
  module _ (l : i < length bs) (free : at + 335 ≤ length page₀) (f₁ : Frame) (n : ℕ) (a : Advances h.frame (drop i bs) f₁ n) where
    ds : List ℕ
    ds = drop i bs

    more : (k : ℕ) → outs h₀ (take (i + k) bs) ≡ outs h₀ (take i bs) ++ outs h (take k ds)
    unfolding ds
    more k =
        ap (outs h₀) (take-add i k bs) ∙ outs-append h₀ (take i bs) (take k (drop i bs))
        ∙ ap (λ (x : Held). outs h₀ (take i bs) ++ outs x (take k (drop i bs))) (sym g.held)

    -- nothing is written before the last of them
    quiet : (k : ℕ) → k < n → outs h (take k ds) ≡ []
    unfolding ds wrotes
    quiet k s =
        outs-follow h.frame (beside h) (take k (drop i bs))
        ∙ ap (wrotes (beside h)) (run_none h.frame (drop i bs) k (omega (arith, a.count)))

    still : (k : ℕ) → k < i + n → space_of (outs h₀ (take k bs)) + 335 ≤ length page₀
    still k s = go (ltb k i) refl
      where
        here : (e : ℕ) → k ≡ i + e → outs h₀ (take k bs) ≡ outs h₀ (take i bs)
        here e z = ap (λ (m : ℕ). outs h₀ (take m bs)) z ∙ more e ∙ ap (λ (x : List Entry). outs h₀ (take i bs) ++ x) (quiet e (omega arith)) ∙ append-nil (outs h₀ (take i bs))

        go : (b : Bool) → ltb k i ≡ b → space_of (outs h₀ (take k bs)) + 335 ≤ length page₀
        go true e = g.room k (ltb-true k i e)
        go false e = omega (arith, ap (λ (x : List Entry). space_of x) (here (k - i) (omega (arith, ltb-false k i e))), g.wrote.next, free)

    module _ (m : Minded) (z : m ≡ settled_at h f₁) (r : ℕ) (page₁ : List ℕ) (w : Puts page at (bytes_of (written m (entry_of f₁))) r page₁) (k : r ≤ length page) where
      pub going_on : Going h₀ bs page₀ (held_by f₁ m) page₁ (i + n) r
      unfolding ds
      going_on =
          let p = a.pushes in
          let held-is : held_by f₁ m ≡ feedings h (take n ds) =
          ap (held_by f₁) z ∙ ap (λ (c : Both). holding f₁ c) (settled-minds f₁.stage (beside h) f₁)
          ∙ sym (feedings-follow h.frame (beside h) (take n ds) ∙ ap (λ (x : Read). holding x.frame (minds (beside h) x.entries)) p) in
          let out-is : outs h (take n ds) ≡ written m (entry_of f₁) =
          outs-follow h.frame (beside h) (take n ds) ∙ ap (λ (x : Read). wrotes (beside h) x.entries) p
          ∙ sym (settled-wrotes f₁.stage (beside h) f₁) ∙ ap (λ (x : Minded). written x (entry_of f₁)) (sym z) in
          let all : bytes_of (outs h₀ (take (i + n) bs)) ≡ bytes_of (outs h₀ (take i bs)) ++ bytes_of (written m (entry_of f₁)) =
          ap bytes_of (more n ∙ ap (λ (x : List Entry). outs h₀ (take i bs) ++ x) out-is) ∙ bytes-append (outs h₀ (take i bs)) (written m (entry_of f₁)) in
          record {
            few = (runs h.frame bs i n f₁ l a).1;
            held = held-is ∙ ap (λ (x : Held). feedings x (take n ds)) g.held ∙ sym (feedings-append h₀ (take i bs) (take n ds)) ∙ ap (feedings h₀) (sym (take-add i n bs));
            wrote = subst (λ (t : List ℕ). Puts page₀ 0 t r page₁) (sym all) (joined g.fits g.wrote w);
            fits = omega (arith, going-long);
            room = still;
          }

-- ---- a lump

module _ (h : Held) (bs page : List ℕ) where
  pub feeds-some : (h' : Held) (n size : ℕ) (page' : List ℕ) → Feeds h bs page h' n size page' → 0 < length bs → 335 ≤ length page → 0 < n
  unfolding outs bytes_of
  feeds-some h' zero size page' f l r = absurd (omega (arith, f.stops l, f.wrote.next))
  feeds-some h' (suc n) size page' f l r = omega arith

  -- of two results neither has taken fewer bytes
  no-fewer : (a b : Held) (n m x y : ℕ) (p q : List ℕ) → Feeds h bs page a n x p → Feeds h bs page b m y q → n < m → ⊥
  no-fewer a b n m x y p q f g l = omega (arith, f.stops (omega (arith, g.few)), g.room n l, f.wrote.next)

  pub feeds-settled : (a b : Held) (n m x y : ℕ) (p q : List ℕ) → Feeds h bs page a n x p → Feeds h bs page b m y q → (a ≡ b) × (n ≡ m) × (x ≡ y) × (p ≡ q)
  feeds-settled a b n m x y p q f g = go (ltb n m) refl (ltb m n) refl
    where
      go : (s : Bool) → ltb n m ≡ s → (t : Bool) → ltb m n ≡ t → (a ≡ b) × (n ≡ m) × (x ≡ y) × (p ≡ q)
      go true e t k = absurd (no-fewer a b n m x y p q f g (ltb-true n m e))
      go false e true k = absurd (no-fewer b a m n y x q p g f (ltb-true m n k))
      go false e false k =
          let z : n ≡ m = omega (arith, ltb-false n m e, ltb-false m n k) in
          let w = one-result f.wrote (subst (λ (i : ℕ). Puts page 0 (bytes_of (outs h (take i bs))) y q) (sym z) g.wrote) in
          (f.held ∙ ap (λ (i : ℕ). feedings h (take i bs)) z ∙ sym g.held, z, w.0, w.1)
