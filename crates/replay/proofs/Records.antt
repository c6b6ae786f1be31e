-- One record: what the doors' promises make of the judge and the lists lent.
--   open_is                     an open
--   symbol-is, finish-is        a symbol and a finish where no word is due
--   missing, none_missing       where one is due, and where none is
--   role-is, word-state         a record by its role
--   took-agree, took-still      a record by the verdict so far
use mathlib.Core.Path.{◌≡◌, refl, sym, ap, ap₂, subst, ◌∙◌}
use mathlib.Core.Bool.{Bool, true, false, cond}
use mathlib.Core.List.{List, [], ◌∷◌, ◌++◌}
use Prim.Native.Nat.{ℕ, ◌+◌, ◌-◌}
use native.Mathlib.Omega.{arith}
use lib.Dec.{eqb}
use lib.IntN.{ℤ}
use lib.ListN.{get_or, length, drop}
use Rattle.std.specs.Prelude.{Result, Ok, Err, ⊤}
use Rattle.points.specs.declared.Accord.{Accord}
use Rattle.machine.specs.declared.Core.{Core}
use Rattle.machine.specs.declared.Receiver.{Receiver}
use Rattle.machine.specs.Machine.{sound, Outcome}
use Rattle.reasons.specs.declared.Why.{Why}
use Rattle.reasons.specs.declared.Why.TheVariants.{Closed, Uneven}
use Rattle.reasons.specs.Reason.{Reason, given_of, is_done}
use Rattle.receiver_meaning.specs.Piece.{Piece, marked_piece, marked_symbol}
use Rattle.openings.specs.declared.Opened.{Opened}
use Rattle.openings.specs.Given.{start_at}
use Rattle.openings.specs.Opening.{opening, Opens}
use Rattle.receiver.specs.declared.Answer.{Answer}
use Rattle.pieces.specs.declared.Heard.{Heard}
use Rattle.pieces.specs.Running.{symbol_at, running}
use Rattle.receiver.specs.Doors.{Ran, stopped, hearing, finishing}
use Rattle.receiver.specs.Promise.{Is, parts_of, answer_of, HearsLent, Finishes}
use Rattle.receiver.proofs.Doors.{lent-live}
use Rattle.receiver.proofs.Left.{finishes-left}
use Rattle.records.specs.declared.Kind.{Kind}
use Rattle.records.specs.declared.Role.{Role}
use Rattle.records.specs.Kinds.{kind_of}
use Rattle.records.specs.Values.{Entry, lead_of, mark_in, coordinate_of, coordinates_of}
use Rattle.replay_judge.specs.declared.Verdict.{Verdict}
use Rattle.replay_judge.specs.declared.Verdict.TheVariants.{Agree, Differs, Extra, Missing, Refused, Malformed}
use Rattle.replay_judge.specs.declared.Judge.{Judge}
use Rattle.std.proofs.Common.{Some, None}
use Rattle.replay_judge.specs.Judging.{State, state_of, left_of, first_due, ruled, showed, answered_by, took_word}
use Rattle.replay_judge.specs.Judging.{opened, answered, unless_due, hears, finishes, worded, by_role, upon, took}
use Rattle.replay_judge.proofs.Dues.{missing-is, nothing-due}
use Rattle.replay.specs.Lent.{Laid}

-- two reasons that give the same number are both done or both not
done-is : {v w : Reason} → v ≡ w → eqb v.number 0 ≡ eqb w.number 0
done-is e = ap (λ (r : Reason). eqb r.number 0) e

number_is : {v w : Reason} → v ≡ w → v.number ≡ w.number
number_is e = ap (λ (r : Reason). r.number) e

not_done : true ≡ false → ⊥
not_done e = let z : ◌≡◌ {A = ℕ} 0 1 = cc in omega arith

-- a symbol that is refused leaves the receiver as it was, and says nothing
record Still (rx : Receiver) (r : Ran) : Type 0 where
  receiver : r.receiver ≡ rx
  words : r.words ≡ []

abbrev heard_one : Receiver → ℕ → ℤ → ℤ → ℤ → ℤ → ℕ → Ran
heard_one rx m a b c d room = hearing rx (marked_piece (m ∷ []) (a ∷ b ∷ c ∷ d ∷ [])) room

hearing-still : (rx : Receiver) (m : ℕ) (a b c d : ℤ) (room : ℕ) → is_done (heard_one rx m a b c d room).why ≡ false → Still rx (heard_one rx m a b c d room)
unfolding hearing running
hearing-still rx m a b c d room = go (sound rx) (marked_piece (m ∷ []) (a ∷ b ∷ c ∷ d ∷ [])).fits (is_done o.why) refl
  where
    o : Outcome
    o = symbol_at rx (marked_symbol m a b c d) (room - 0)

    one : Bool → Ran
    one t =
        cond t (record { receiver = o.receiver; taken = 1; words = o.words; why = Ok tt })
        (record { receiver = rx; taken = 0; words = []; why = o.why })

    all : Bool → Bool → Bool → Ran
    all s f t = cond s (cond f (one t) (stopped rx (Err Uneven))) (stopped rx (Err Closed))

    go : (s f t : Bool) → is_done o.why ≡ t → is_done (all s f t).why ≡ false → Still rx (all s f t)
    go false f t e h = record { receiver = refl; words = refl }
    go true false t e h = record { receiver = refl; words = refl }
    go true true false e h = record { receiver = refl; words = refl }
    go true true true e h = absurd (not_done h)

-- ---- the lists after an answer

record Lists (sums registers picks sums₁ registers₁ picks₁ : List ℕ) : Type 0 where
  sums-is : sums₁ ≡ sums
  registers-is : registers₁ ≡ registers
  picks-is : picks₁ ≡ picks

module _ {why : Result ⊤ Why} {rx : Receiver} {sums registers picks sums₁ registers₁ picks₁ : List ℕ} (l : Laid why rx sums registers picks sums₁ registers₁ picks₁) where
  new-lists : is_done why ≡ true → Lists rx.sums rx.registers rx.picks sums₁ registers₁ picks₁
  new-lists e = record { sums-is = l.sums-is ∙ rw e; registers-is = l.registers-is ∙ rw e; picks-is = l.picks-is ∙ rw e }

  old-lists : is_done why ≡ false → Lists sums registers picks sums₁ registers₁ picks₁
  old-lists e = record { sums-is = l.sums-is ∙ rw e; registers-is = l.registers-is ∙ rw e; picks-is = l.picks-is ∙ rw e }

module _ (why : Result ⊤ Why) (rx : Receiver) (sums registers picks : List ℕ) where
  pub laid_done : is_done why ≡ true → Laid why rx sums registers picks rx.sums rx.registers rx.picks
  laid_done e = record { sums-is = rw e; registers-is = rw e; picks-is = rw e }

  pub laid-refused : is_done why ≡ false → Laid why rx sums registers picks sums registers picks
  laid-refused e = record { sums-is = rw e; registers-is = rw e; picks-is = rw e }

module _ (j : Judge) (sums registers picks due : List ℕ) where
  abbrev s : State
  s = state_of j sums registers picks due

  -- ---- an open

  pub open_is : (k : Accord) (w b : ℕ) (o : Opened) → Opens k w (start_at b) o → (sums₁ registers₁ picks₁ : List ℕ)
      → Laid o.why o.receiver sums registers picks sums₁ registers₁ picks₁ → (r : Judge) → r ≡ answered_by j o.why o.receiver.live o.receiver.core 0
      → state_of r sums₁ registers₁ picks₁ due ≡ opened s k w b
  unfolding opened answered_by
  open_is k w b o g sums₁ registers₁ picks₁ l r z = go (is_done o.why) refl
    where
      go : (t : Bool) → is_done o.why ≡ t → state_of r sums₁ registers₁ picks₁ due ≡ opened s k w b
      go true h =
          let e : is_done (opening k w (start_at b)).why ≡ true = sym (done-is g.always-given) ∙ h in
          let x = new-lists l h in
          rw (z, h, e, x.sums-is, x.registers-is, x.picks-is, sym g.always-receiver)
      go false h =
          let e : is_done (opening k w (start_at b)).why ≡ false = sym (done-is g.always-given) ∙ h in
          let x = old-lists l h in
          rw (z, h, e, number_is g.always-given, x.sums-is, x.registers-is, x.picks-is)

  -- ---- what the receiver answered to a symbol or a finish

  record Took (q : Ran) (live : Bool) (core : Core) (m : ℕ) (sums₁ registers₁ picks₁ due₁ : List ℕ) : Type 0 where
    receiver : parts_of live core sums₁ registers₁ picks₁ ≡ q.receiver
    given : m ≡ length q.words
    due-is : due₁ ≡ q.words ++ drop (length q.words) due

  record Kept (sums₁ registers₁ picks₁ due₁ : List ℕ) : Type 0 where
    lists : Lists sums registers picks sums₁ registers₁ picks₁
    due-is : due₁ ≡ due

  module _ (q : Ran) (why : Result ⊤ Why) (live : Bool) (core : Core) (m : ℕ) (r : Judge) (sums₁ registers₁ picks₁ due₁ : List ℕ) where
    answer-is : given_of why ≡ given_of q.why → r ≡ answered_by j why live core m → (is_done q.why ≡ true → Took q live core m sums₁ registers₁ picks₁ due₁)
        → (is_done q.why ≡ false → Kept sums₁ registers₁ picks₁ due₁) → state_of r sums₁ registers₁ picks₁ due₁ ≡ answered s q
    unfolding answered answered_by
    answer-is e z took kept = go (is_done q.why) refl
      where
        go : (t : Bool) → is_done q.why ≡ t → state_of r sums₁ registers₁ picks₁ due₁ ≡ answered s q
        go true h =
            let d : is_done why ≡ true = done-is e ∙ h in
            let t = took h in
            rw (z, d, h, t.receiver, t.given, t.due-is)
        go false h =
            let d : is_done why ≡ false = done-is e ∙ h in
            let t = kept h in
            rw (z, d, h, number_is e, t.lists.sums-is, t.lists.registers-is, t.lists.picks-is, t.due-is)

  module _ (kind : ℕ) (body : List ℕ) (m : ℕ) (n : m ≡ mark_in kind body) (xs : List ℤ) (x : xs ≡ coordinates_of kind body) (l : length picks ≡ 72)
      (h : Heard) (sums₁ registers₁ picks₁ due₁ : List ℕ)
      (k : HearsLent j.live j.core sums registers picks (marked_piece (m ∷ []) xs) due h sums₁ registers₁ picks₁ due₁) where
    abbrev piece : Piece
    piece = marked_piece (mark_in kind body ∷ []) (coordinates_of kind body)

    abbrev i : ℕ
    i = lead_of kind

    abbrev at : ℕ → ℕ → ℤ
    at a b = coordinate_of (get_or body a 0) (get_or body b 0)

    ran : Ran
    ran = hearing s.receiver piece (length due)

    is : Is ran due (answer_of j.live h sums₁ registers₁ picks₁) due₁
    unfolding ran
    is =
        let e : marked_piece (m ∷ []) xs ≡ piece = ap₂ (λ (z : ℕ) (ys : List ℤ). marked_piece (z ∷ []) ys) n x in
        subst (λ (p : Piece). Is (hearing s.receiver p (length due)) due (answer_of j.live h sums₁ registers₁ picks₁) due₁) e
        (subst (λ (b : Bool). Is (hearing (parts_of b j.core sums registers picks) (marked_piece (m ∷ []) xs) (length due)) due (answer_of b h sums₁ registers₁ picks₁) due₁)
        (lent-live j.live picks l) k)

    kept : is_done ran.why ≡ false → Kept sums₁ registers₁ picks₁ due₁
    unfolding ran
    kept g =
        let t : Still s.receiver ran = hearing-still s.receiver (mark_in kind body) (at i (i + 1)) (at (i + 2) (i + 3)) (at (i + 4) (i + 5)) (at (i + 6) (i + 7)) (length due) g in
        let a : parts_of j.live h.core sums₁ registers₁ picks₁ ≡ s.receiver = is.receiver ∙ t.receiver in
        record {
          lists = record { sums-is = ap (λ (v : Receiver). v.sums) a; registers-is = ap (λ (v : Receiver). v.registers) a; picks-is = ap (λ (v : Receiver). v.picks) a };
          due-is = is.output ∙ rw t.words;
        }

    pub symbol-is : (r : Judge) → r ≡ answered_by j h.why j.live h.core h.written → state_of r sums₁ registers₁ picks₁ due₁ ≡ hears s kind body
    unfolding ran
    symbol-is r z =
        answer-is ran h.why j.live h.core h.written r sums₁ registers₁ picks₁ due₁ is.given z
        (λ g. record { receiver = is.receiver; given = is.written; due-is = is.output }) kept

  module _ (a : Answer) (due₁ : List ℕ) (k : Finishes s.receiver due a due₁) (sums₁ registers₁ picks₁ : List ℕ)
      (l : Laid a.why a.receiver sums registers picks sums₁ registers₁ picks₁) where
    abbrev end : Ran
    end = finishing s.receiver (length due)

    closed : is_done end.why ≡ true → Took end a.receiver.live a.receiver.core a.written sums₁ registers₁ picks₁ due₁
    closed g =
        let is = k.always in
        let d : is_done a.why ≡ true = done-is is.given ∙ g in
        let x = new-lists l d in
        record { receiver = rw (x.sums-is, x.registers-is, x.picks-is) is.receiver; given = is.written; due-is = is.output }

    left_open : is_done end.why ≡ false → Kept sums₁ registers₁ picks₁ due₁
    left_open g =
        let d : is_done a.why ≡ false = done-is k.always.given ∙ g in
        record { lists = old-lists l d; due-is = (finishes-left s.receiver due a due₁ k (λ y. not_done (sym (rw y) ∙ d))).1 }

    pub finish-is : (r : Judge) → r ≡ answered_by j a.why a.receiver.live a.receiver.core a.written → state_of r sums₁ registers₁ picks₁ due₁ ≡ finishes s
    finish-is r z =
        answer-is end a.why a.receiver.live a.receiver.core a.written r sums₁ registers₁ picks₁ due₁ k.always.given z closed left_open

  -- ---- a word that is due

  pub missing : (n : State) (h : ℕ) → first_due (left_of s) ≡ Some h → (r : Judge) → r ≡ ruled j (Missing j.records h) → state_of r sums registers picks due ≡ unless_due s (left_of s) n
  missing n h e r z = rw z (missing-is s n (left_of s) h e)

  pub none_missing : first_due (left_of s) ≡ None → (r n : State) → r ≡ n → r ≡ unless_due s (left_of s) n
  none_missing f r n z = z ∙ nothing-due s n (left_of s) f

-- ---- a record

pub role-is : {a b : Kind} {r : Role} → a ≡ b → a.role ≡ r → b.role ≡ r
role-is e f = sym (ap (λ (k : Kind). k.role) e) ∙ f

pub word-state : (j : Judge) (sums registers picks due : List ℕ) (n g w : ℕ) (l : List ℕ) (r : Judge) → g ≡ w → r ≡ took_word j n g l
    → state_of r sums registers picks due ≡ worded (state_of j sums registers picks due) n w l
unfolding took_word
word-state j sums registers picks due n g w [] r e z = rw (z, e)
word-state j sums registers picks due n g w (h ∷ hs) r e z = rw (z, e) (go (eqb w h))
  where
    other : Judge
    other = ruled j (Differs j.records w h)

    go : (b : Bool) → state_of (cond b (showed j n) other) sums registers picks due
        ≡ cond b (state_of (showed j n) sums registers picks due) (state_of other sums registers picks due)
    go true = refl
    go false = refl

module _ (s : State) (r : Entry) where
  pub took-agree : (n : ℕ) → s.verdict ≡ Agree n → by_role (kind_of r.kind).role s n r.kind r.body ≡ took s r
  unfolding took
  took-agree n e = ap (λ (v : Verdict). upon v s r) (sym e)

  pub took-still : ((n : ℕ) → s.verdict ≡ Agree n → ⊥) → s ≡ took s r
  unfolding took
  took-still not = go s.verdict not
    where
      go : (v : Verdict) → ((n : ℕ) → v ≡ Agree n → ⊥) → s ≡ upon v s r
      go (Agree n) not = absurd (not n refl)
      go (Differs n g h) not = refl
      go (Extra n g) not = refl
      go (Missing n h) not = refl
      go (Refused n w) not = refl
      go (Malformed p) not = refl
