-- The numbers of a list of words by what specs/Table says of them, and what a list leaves behind. Demand 1 cites these laws.
--   words-case, words-is    an open sender: the number is one that the table gives, and what the table gives is the number
--   list-case, list-is      the same of any end
--   list-behind             the places behind four times the words sent are as they were lent
--   all-empty               no words
use mathlib.Core.Path.{◌≡◌, refl, sym, ap, subst, ◌∙◌}
use mathlib.Core.Bool.{Bool, true, false}
use mathlib.Core.List.{List, [], ◌∷◌, ◌++◌}
use Prim.Native.Nat.{ℕ, suc, ◌+◌, ◌-◌, ◌*◌, ◌≤◌}
use native.Mathlib.Numerals.{add-one}
use native.Mathlib.Omega.{arith}
use lib.IntN.{ℤ}
use lib.ListN.{length, take, drop, length-drop, drop_of_length-le}
use lib.Seq.{length-take-le, drop-append-add, drop-drop}
use Rattle.wei.specs.Word.{is_word}
use Rattle.points.specs.declared.Accord.{Accord}
use Rattle.sender.specs.declared.Sender.{Sender}
use Rattle.sender.specs.Send.{sound, four, Given, sending, End}
use Rattle.sender.specs.SendList.{GivenList, given_list, sending_all, sending_list}
use Rattle.sender.proofs.Exactly.{done, refused-keeps, outcome, Outcome, closed, bad-word, no_room, taken}
use Rattle.sender.proofs.Lists.{onward-by, list-by, list_open, list-nine, sent-room, sent-sound, sending-accord}
use Rattle.promises.specs.Table as table
use Rattle.promises.proofs.Numbers.{live-sound, shut-live, sound-live, apart}

-- ---- an open sender

-- a word sent stands before the others
more : (u n : ℕ) (ns : List ℕ) (room m k : ℕ) → is_word u n ≡ true → 4 ≤ room → table.WordsGive u ns (room - 4) m k → table.WordsGive u (n ∷ ns) room (m + 1) k
more u n ns room m k w r (table.WordsGive.whole e a l) = table.WordsGive.whole (omega arith) (w, a) (omega arith)
more u n ns room m k w r (table.WordsGive.four a l x later d f) =
    rw add-one (table.WordsGive.four (w, a) (omega arith) x later d f)
more u n ns room m k w r (table.WordsGive.eight a l x later d f g) =
    rw add-one (table.WordsGive.eight (w, a) (omega arith) x later d f (omega arith))

-- the word that stops a list is the first
stops : (s : Sender) → sound s ≡ true → (n : ℕ) (ns : List ℕ) (out : List ℤ) (g : Given) → Outcome s n out g → (g.number ≡ 0 → ⊥) →
    table.WordsGive s.accord.u (n ∷ ns) (length out) 0 g.number
stops s e n ns out g (closed a) z = absurd (apart (sound s) e a)
stops s e n ns out g (bad-word a w) z = table.WordsGive.four tt (omega arith) n ns refl w
stops s e n ns out g (no_room a w l) z = table.WordsGive.eight tt (omega arith) n ns refl w (omega arith)
stops s e n ns out g (taken a w l) z = absurd (z refl)

sent-length : (s : Sender) (n : ℕ) (out : List ℤ) → (sending s n out).number ≡ 0 → length (drop 4 (sending s n out).output) ≡ length out - 4
unfolding four
sent-length s n out z =
    let t = done s n out z in
    rw t.output (length-drop 4 out)

pub words-case : (s : Sender) → sound s ≡ true → (ns : List ℕ) (out : List ℤ) →
    table.WordsGive s.accord.u ns (length out) (sending_all s ns out).sent (sending_all s ns out).number
unfolding sending_all
words-case s e [] out = table.WordsGive.whole refl tt (omega arith)
words-case s e (n ∷ ns) out =
    let g = sending s n out in
    onward-by (λ r. table.WordsGive s.accord.u (n ∷ ns) (length out) r.sent r.number) g (sending_all g.sender ns (drop 4 g.output))
    (λ z.
    let t = done s n out z in
    let r = sending_all g.sender ns (drop 4 g.output) in
    more s.accord.u n ns (length out) r.sent r.number t.word t.room
    (subst (λ (v : ℕ). table.WordsGive v ns (length out - 4) r.sent r.number) (ap (λ (k : Accord). k.u) (sending-accord s n out))
    (subst (λ (v : ℕ). table.WordsGive g.sender.accord.u ns v r.sent r.number) (sent-length s n out z)
    (words-case g.sender (sent-sound s n out z) ns (drop 4 g.output)))))
    (stops s e n ns out g (outcome s n out))

-- so many words sent have one number
past_end : (ns : List ℕ) (m n : ℕ) (later : List ℕ) → m ≡ length ns → drop m ns ≡ n ∷ later → ⊥
past_end ns m n later e d = let z : ◌≡◌ {A = ℕ} 0 (suc (length later)) = ap length (sym (drop_of_length-le ns {i = m} (omega arith)) ∙ d) in omega arith

same_next : (u : ℕ) (l : List ℕ) (n x : ℕ) (later after : List ℕ) → l ≡ n ∷ later → l ≡ x ∷ after → is_word u n ≡ true → is_word u x ≡ false → ⊥
same_next u l n x later after d e a b = let h : n ≡ x = cc in apart (is_word u x) (rw (← h) a) b

words-one : (u : ℕ) (ns : List ℕ) (room m k l : ℕ) → table.WordsGive u ns room m k → table.WordsGive u ns room m l → k ≡ l
words-one u ns room m k l (table.WordsGive.whole e a r) (table.WordsGive.whole e₂ a₂ r₂) = refl
words-one u ns room m k l (table.WordsGive.whole e a r) (table.WordsGive.four a₂ r₂ x later d f) = absurd (past_end ns m x later e d)
words-one u ns room m k l (table.WordsGive.whole e a r) (table.WordsGive.eight a₂ r₂ x later d f g) = absurd (past_end ns m x later e d)
words-one u ns room m k l (table.WordsGive.four a₂ r₂ x later d f) (table.WordsGive.whole e a r) = absurd (past_end ns m x later e d)
words-one u ns room m k l (table.WordsGive.four a r x later d f) (table.WordsGive.four a₂ r₂ x₂ later₂ d₂ f₂) = refl
words-one u ns room m k l (table.WordsGive.four a r x later d f) (table.WordsGive.eight a₂ r₂ x₂ later₂ d₂ f₂ g₂) = absurd (same_next u (drop m ns) x₂ x later₂ later d₂ d f₂ f)
words-one u ns room m k l (table.WordsGive.eight a₂ r₂ x later d f g) (table.WordsGive.whole e a r) = absurd (past_end ns m x later e d)
words-one u ns room m k l (table.WordsGive.eight a r x later d f g) (table.WordsGive.four a₂ r₂ x₂ later₂ d₂ f₂) = absurd (same_next u (drop m ns) x x₂ later later₂ d d₂ f f₂)
words-one u ns room m k l (table.WordsGive.eight a r x later d f g) (table.WordsGive.eight a₂ r₂ x₂ later₂ d₂ f₂ g₂) = refl

-- ---- any end

module _ (s : Sender) (e : End s) (ns : List ℕ) (out : List ℤ) where
  pub list-case : table.ListGives s ns out (sending_list s ns out).sent (sending_list s ns out).number
  list-case = go (sound s) refl
    where
      go : (b : Bool) → sound s ≡ b → table.ListGives s ns out (sending_list s ns out).sent (sending_list s ns out).number
      go true f = rw (list_open s ns out f) (table.ListGives.goes (sound-live s e 0 out s.live refl f) _ (words-case s f ns out))
      go false f = rw (list-nine s ns out f) (table.ListGives.nine (shut-live s e 0 out s.live refl f) refl)

  pub list-is : (m k : ℕ) → m ≡ (sending_list s ns out).sent → table.ListGives s ns out m k → (sending_list s ns out).number ≡ k
  list-is m k z (table.ListGives.nine l h) = ap (λ (g : GivenList). g.number) (list-nine s ns out (live-sound s e 0 out false l))
  list-is m k z (table.ListGives.goes l k' h) =
      let o = list_open s ns out (live-sound s e 0 out true l) in
      let z' : m ≡ (sending_all s ns out).sent = z ∙ ap (λ (g : GivenList). g.sent) o in
      ap (λ (g : GivenList). g.number) o
      ∙ words-one s.accord.u ns (length out) m (sending_all s ns out).number k
      (rw z' (words-case s (live-sound s e 0 out true l) ns out)) h

-- ---- what a list leaves behind

sent-behind : (s : Sender) (n : ℕ) (out : List ℤ) → (sending s n out).number ≡ 0 → drop 4 (sending s n out).output ≡ drop 4 out
unfolding four
sent-behind s n out z = rw (done s n out z).output

words-behind : (s : Sender) (ns : List ℕ) (out : List ℤ) → let g = sending_all s ns out in drop (4 * g.sent) g.output ≡ drop (4 * g.sent) out
unfolding sending_all
words-behind s [] out = refl
words-behind s (n ∷ ns) out =
    let g = sending s n out in
    let r = sending_all g.sender ns (drop 4 g.output) in
    onward-by (λ x. drop (4 * x.sent) x.output ≡ drop (4 * x.sent) out) g r
    (λ z.
    let l : 4 * (r.sent + 1) ≡ length (take 4 g.output) + 4 * r.sent = rw (length-take-le 4 g.output (sent-room s n out z)) (omega arith) in
    let m : 4 + 4 * r.sent ≡ 4 * (r.sent + 1) = omega arith in
    ap (λ (k : ℕ). drop k (take 4 g.output ++ r.output)) l ∙ drop-append-add (take 4 g.output) r.output (4 * r.sent)
    ∙ words-behind g.sender ns (drop 4 g.output) ∙ ap (drop (4 * r.sent)) (sent-behind s n out z)
    ∙ drop-drop (4 * r.sent) 4 out ∙ ap (λ (k : ℕ). drop k out) m)
    (λ h. (refused-keeps s n out h).1)

pub list-behind : (s : Sender) (ns : List ℕ) (out : List ℤ) → let g = sending_list s ns out in drop (4 * g.sent) g.output ≡ drop (4 * g.sent) out
list-behind s ns out = list-by (λ g. drop (4 * g.sent) g.output ≡ drop (4 * g.sent) out) s ns out (words-behind s ns out) refl

pub all-empty : (s : Sender) (out : List ℤ) → sending_all s [] out ≡ given_list 0 s 0 out
unfolding sending_all
all-empty s out = refl
