-- What the doors owe: from what the machine does to a record, what the promises say for whatever the receiver has been told.
--   hears      a result that is the machine's keeps the promise of `hear`
--   finishes   and that of `finish`
--   lent-live, lent_none, lent-all   whether lent parts are live
--   lent_open  the test of lent parts says whether the receiver is open
--   hears-lent  the promise of `hear` from that of `hear_piece_lent`
use mathlib.Core.Path.{◌≡◌, refl, sym, ap, ap₂, subst, ◌∙◌}
use mathlib.Core.Bool.{Bool, true, false, cond, ◌&&◌}
use mathlib.Core.List.{List, [], ◌++◌}
use Prim.Native.Nat.{ℕ, ◌<◌, ◌≤◌}
use borrow.Author.Tests.{eq-eqb, ne_eqb, eqb-true, lt-ltb, le-ltb}
use native.Mathlib.Nat.{sub-zero}
use native.Mathlib.Omega.{arith}
use lib.Dec.{ltb}
use lib.ListN.{length, take, drop}
use Rattle.std.specs.Prelude.{Ok, Err}
use Rattle.calls.specs.Calls.{rest}
use Rattle.trellis.specs.Words.{words_from}
use Rattle.machine.specs.declared.Core.{Core}
use Rattle.machine.specs.declared.Receiver.{Receiver}
use Rattle.reasons.specs.declared.Why.TheVariants.{NoRoom, Closed, Uneven}
use Rattle.machine.specs.Machine.{shut, last_words, sound_core, sound, way_from, machine_of}
use Rattle.machine.specs.Parts.{whole}
use Rattle.sums.specs.Sums.{limit, end_of}
use Rattle.lists.specs.UpTo.{all_up_to}
use Rattle.lists.proofs.UpTo.{and_both}
use Rattle.receiver_meaning.specs.Told.{Told, speaker_of, Fine, with_heard}
use Rattle.reasons.specs.Reason.{reason, given_of}
use Rattle.machine.proofs.Owed.{machine-same, sound-told, last-told, rest-many}
use Rattle.machine.proofs.Finish.{last-many, last-from}
use Rattle.machine.proofs.Sound.{sound-live}
use Rattle.receiver.specs.declared.Answer.{Answer}
use Rattle.pieces.specs.declared.Heard.{Heard}
use Rattle.receiver_meaning.specs.Piece.{Piece}
use Rattle.pieces.specs.Running.{Ran, running}
use Rattle.pieces.specs.Lent.{RunsLent}
use Rattle.receiver.specs.Doors.{stopped, hearing, finishing}
use Rattle.receiver_meaning.specs.Owed.{Owed, ended_of, piece_owed, FinishOwed, finish_owed}
use Rattle.receiver.specs.Promise.{Is, parts_of, lent_live, answer_of, Hears, Finishes}
use Rattle.pieces.proofs.Runs.{walked, RunsAs, runs}

-- ---- a piece

pub record OwedBy (h : Ran) (d : Owed) : Type 0 where
  pub given : given_of h.why ≡ d.reason
  pub taken : h.taken ≡ d.taken
  pub words : h.words ≡ d.words
  pub fine : Fine d.told
  pub receiver : h.receiver ≡ machine_of d.told

pub hearing-owes : (t : Told) → Fine t → (p : Piece) (room : ℕ) → OwedBy (hearing (machine_of t) p room) (piece_owed t p room)
unfolding hearing piece_owed
hearing-owes t f p room = rw (sound-told t f) (go p.fits)
  where
    e : RunsAs t (ended_of t p room) 0 [] (running p.symbols (machine_of t) 0 [] room)
    e =
        subst (λ (m : ℕ). RunsAs t (walked t t.heard p.symbols m) 0 [] (running p.symbols (machine_of t) 0 [] room)) (sub-zero room)
        (runs t p.symbols t.heard f 0 [] room)

    ends : Owed
    ends = let r = ended_of t p room in record { reason = r.why; taken = r.taken; words = r.said; told = with_heard t r.heard }

    go : (b : Bool) → OwedBy (cond b (running p.symbols (machine_of t) 0 [] room) (stopped (machine_of t) (Err Uneven)))
        (cond b ends (record { reason = reason 10; taken = 0; words = []; told = t }))
    go true =
        let heard = (ended_of t p room).heard in
        record { given = e.given; taken = omega (arith, e.taken); words = e.words; fine = e.fine; receiver = e.receiver ∙ sym (machine-same t heard heard) }
    go false = record { given = refl; taken = refl; words = refl; fine = f; receiver = refl }

pub hears : (rx : Receiver) (p : Piece) (out : List ℕ) (r : Answer) (o : List ℕ) → Is (hearing rx p (length out)) out r o → Hears rx p out r o
hears rx p out r o k =
    record {
      always = k;
      owed = λ t f e.
          let h = subst (λ (q : Receiver). Is (hearing q p (length out)) out r o) e k in
          let d = hearing-owes t f p (length out) in
          record {
            given = h.given ∙ d.given;
            taken = h.taken ∙ d.taken;
            written = h.written ∙ ap length d.words;
            output = h.output ∙ ap (λ (ws : List ℕ). ws ++ drop (length ws) out) d.words;
            fine = d.fine;
            receiver = h.receiver ∙ d.receiver;
          };
    }

-- ---- a finish

pub record EndedBy (h : Ran) (rx : Receiver) (d : FinishOwed) : Type 0 where
  pub given : given_of h.why ≡ d.reason
  pub taken : h.taken ≡ 0
  pub words : h.words ≡ d.words
  pub receiver : h.receiver ≡ cond d.closes shut rx

finishing-by : (rx : Receiver) (room n : ℕ) (ws : List ℕ) → sound rx ≡ true → rx.core.pending ≡ n → last_words rx ≡ ws →
    finishing rx room ≡ cond (ltb room n) (stopped rx (Err NoRoom)) (record { receiver = shut; taken = 0; words = ws; why = Ok tt })
unfolding finishing
finishing-by rx room n ws a b c = cc

pub finishing-owes : (t : Told) → Fine t → (room : ℕ) → EndedBy (finishing (machine_of t) room) (machine_of t) (finish_owed t room)
unfolding finish_owed
finishing-owes t f room =
    subst (λ (h : Ran). EndedBy h (machine_of t) (finish_owed t room))
    (sym (finishing-by (machine_of t) room (length ws) ws (sound-told t f) (sym (rest-many t f)) (last-told t f)))
    (go (ltb room (length ws)))
  where
    ws : List ℕ
    ws = rest (speaker_of t) t.heard

    go : (b : Bool) → EndedBy (cond b (stopped (machine_of t) (Err NoRoom)) (record { receiver = shut; taken = 0; words = ws; why = Ok tt })) (machine_of t)
        (cond b (record { reason = reason 8; words = []; closes = false }) (record { reason = reason 0; words = ws; closes = true }))
    go true = record { given = refl; taken = refl; words = refl; receiver = refl }
    go false = record { given = refl; taken = refl; words = refl; receiver = refl }

pub finishes : (rx : Receiver) (out : List ℕ) (r : Answer) (o : List ℕ) → Is (finishing rx (length out)) out r o → Finishes rx out r o
finishes rx out r o k =
    record {
      always = k;
      owed = λ t f e.
          let h = subst (λ (q : Receiver). Is (finishing q (length out)) out r o) e k in
          let d = finishing-owes t f (length out) in
          record {
            given = h.given ∙ d.given;
            taken = h.taken ∙ d.taken;
            written = h.written ∙ ap length d.words;
            output = h.output ∙ ap (λ (ws : List ℕ). ws ++ drop (length ws) out) d.words;
            receiver = h.receiver ∙ d.receiver ∙ ap (cond (finish_owed t (length out)).closes shut) (sym e);
          };
    }

-- ---- the machine's answers, as the code gives them

module _ (rx : Receiver) (out : List ℕ) where
  pub finish-closed : sound rx ≡ false → Is (finishing rx (length out)) out (record { receiver = rx; taken = 0; written = 0; why = Err Closed }) out
  unfolding finishing
  finish-closed e = rw e (record { receiver = refl; taken = refl; written = refl; given = refl; output = refl })

  pub finish-full : sound rx ≡ true → length out < rx.core.pending → Is (finishing rx (length out)) out (record { receiver = rx; taken = 0; written = 0; why = Err NoRoom }) out
  unfolding finishing
  finish-full e h = rw (e, lt-ltb (length out) rx.core.pending h) (record { receiver = refl; taken = refl; written = refl; given = refl; output = refl })

  pub finish-done : sound rx ≡ true → rx.core.pending ≤ length out → (s : ℕ) → s ≡ end_of rx.sums → (o : List ℕ) →
      o ≡ words_from rx.core.accord.u rx.core.turn (take rx.core.pending (way_from rx.core rx.registers rx.picks s)) ++ drop rx.core.pending out →
      Is (finishing rx (length out)) out (record { receiver = shut; taken = 0; written = rx.core.pending; why = Ok tt }) o
  unfolding finishing
  finish-done e h s k o w =
      let z : o ≡ last_words rx ++ drop (length (last_words rx)) out = w ∙ ap₂ (λ (ws : List ℕ) (n : ℕ). ws ++ drop n out) (last-from rx s k) (sym (last-many rx)) in
      rw (e, le-ltb (length out) rx.core.pending h) (record { receiver = refl; taken = refl; written = sym (last-many rx); given = refl; output = z })

  pub hear-closed : (p : Piece) → sound rx ≡ false → Is (hearing rx p (length out)) out (record { receiver = rx; taken = 0; written = 0; why = Err Closed }) out
  unfolding hearing
  hear-closed p e = rw e (record { receiver = refl; taken = refl; written = refl; given = refl; output = refl })

  pub hear-uneven : (p : Piece) → sound rx ≡ true → p.fits ≡ false → Is (hearing rx p (length out)) out (record { receiver = rx; taken = 0; written = 0; why = Err Uneven }) out
  unfolding hearing
  hear-uneven p e n = rw (e, n) (record { receiver = refl; taken = refl; written = refl; given = refl; output = refl })

  pub hear-is : (p : Piece) → sound rx ≡ true → p.fits ≡ true → (r : Answer) (o : List ℕ) → Is (running p.symbols rx 0 [] (length out)) out r o → Is (hearing rx p (length out)) out r o
  unfolding hearing
  hear-is p e z r o is = rw (e, z) is

-- ---- parts that are lent

module _ (live : Bool) (picks : List ℕ) where
  pub lent-live : length picks ≡ 72 → lent_live live picks ≡ live
  lent-live e = rw (eq-eqb (length picks) 72 e) (go live) where
    go : (b : Bool) → (b && true) ≡ b
    go true = refl
    go false = refl

  pub lent_none : (length picks ≡ 72 → ⊥) → lent_live live picks ≡ false
  lent_none e = rw (ne_eqb (length picks) 72 e) (go live) where
    go : (b : Bool) → (b && false) ≡ false
    go true = refl
    go false = refl

  pub lent-all : lent_live live picks ≡ true → length picks ≡ 72
  lent-all e = eqb-true (length picks) 72 (and_both live _ e).1

pub lent_open : (live : Bool) (core : Core) (sums registers picks : List ℕ) (b : Bool) → b ≡ (lent_live live picks && (sound_core core && all_up_to limit sums)) →
    sound (parts_of (lent_live live picks) core sums registers picks) ≡ b
unfolding sound
lent_open live core sums registers picks b e = sym e

-- a receiver that lends its own picks
pub hears-lent : (rx : Receiver) (p : Piece) (out : List ℕ) (h : Heard) (sums registers picks o : List ℕ) → length rx.picks ≡ 72
    → Is (hearing (parts_of (lent_live rx.live rx.picks) rx.core rx.sums rx.registers rx.picks) p (length out)) out (answer_of (lent_live rx.live rx.picks) h sums registers picks) o
    → Hears rx p out (answer_of rx.live h sums registers picks) o
hears-lent rx p out h sums registers picks o n is =
    hears rx p out (answer_of rx.live h sums registers picks) o
    (subst (λ (b : Bool). Is (hearing (parts_of b rx.core rx.sums rx.registers rx.picks) p (length out)) out (answer_of b h sums registers picks) o) (lent-live rx.live rx.picks n) is)

-- an open receiver is live, and its piece is a run
pub hear-parts : (live : Bool) (core : Core) (sums registers picks out : List ℕ) (p : Piece) → sound (parts_of live core sums registers picks) ≡ true → p.fits ≡ true →
    (h : Heard) (sums₁ registers₁ picks₁ o : List ℕ) → RunsLent (running p.symbols (whole core sums registers picks) 0 [] (length out)) out h sums₁ registers₁ picks₁ o →
    Is (hearing (parts_of live core sums registers picks) p (length out)) out (answer_of live h sums₁ registers₁ picks₁) o
hear-parts live core sums registers picks out p e z h sums₁ registers₁ picks₁ o k =
    hear-is (parts_of live core sums registers picks) out p e z (answer_of live h sums₁ registers₁ picks₁) o
    (subst (λ (b : Bool). Is (running p.symbols (parts_of b core sums registers picks) 0 [] (length out)) out (answer_of b h sums₁ registers₁ picks₁) o)
    (sym (sound-live (parts_of live core sums registers picks) e))
    (record { receiver = k.receiver; taken = k.taken; written = k.written; given = k.given; output = k.output }))
