-- A CAPTURE THAT AGREES COMES OUT AS IT IS, WITH FOUR ZEROS.
--   Bytes bs         every number is a byte's
--   reading-bytes    so is every one of a reading's records
--   word_same        a word's record is that of its word
--   faults-stay      a replay that has found a fault never agrees
--   same             the records from any place on, if the replay agrees from there
--   agreed-same      THE THEOREM
use mathlib.Core.Path.{◌≡◌, refl, sym, ap, ap₂, ◌∙◌}
use mathlib.Core.Bool.{Bool, true, false, cond}
use mathlib.Core.List.{List, [], ◌∷◌, ◌++◌}
use Prim.Native.Nat.{ℕ, zero, suc, ◌+◌, ◌-◌, ◌<◌}
use native.Mathlib.Omega.{arith}
use borrow.Author.Tests.{eqb-true, eq-eqb}
use lib.Dec.{eqb}
use lib.ListN.{length, take, drop}
use Rattle.trellis.specs.Lists.{Every}
use Rattle.trellis.proofs.Lists.{every_drop}
use Rattle.records.specs.declared.Kind.{Kind}
use Rattle.records.specs.declared.Role.{Role}
use Rattle.records.specs.declared.Role.TheVariants.{Open, Symbol, Word, Finish, Unknown}
use Rattle.records.specs.declared.Phase.{Phase}
use Rattle.records.specs.declared.Phase.TheVariants.{Start, Opened, Running, Over}
use Rattle.records.specs.Kinds.{kind_of, may_stand, after_role, begins, row}
use Rattle.records.specs.Values.{Entry, entry, word_of, word_entry, bytes_of}
use Rattle.records.specs.Reading.{Ending, clean, malformed, Reading, stops_at, followed_by, stands, reading_from, reading_of}
use Rattle.records.proofs.Back.{word_bytes, read-exact}
use Rattle.records.proofs.Steps.{begins-after}
use Rattle.record_write.specs.Front.{word_entries}
use Rattle.replay_judge.specs.declared.Verdict.{Verdict}
use Rattle.replay_judge.specs.declared.Verdict.TheVariants.{Agree, Differs, Extra, Missing, Refused, Malformed}
use Rattle.replay.specs.Meaning.{Line, closed, agreed, Seen, nothing_seen, by_role, upon, taking, takings, closing_at, closing, verdict_of}
use Rattle.replay.proofs.Forms.{Formed}
use Rattle.replay.proofs.Words.{seen}
use Rattle.salvage_meaning.specs.Salvage.{is_word_role, is_word, running, kept, mended, words_after, replaced_in, added_in, removed_in, changes, Salvage, salvage_of}
use Rattle.salvage_meaning.proofs.Running.{false-true, run-taken, run-refused}
use Rattle.salvage_meaning.proofs.Steps.{kept_word, kept-taken, mended-word, mended-head}
use Rattle.salvage_meaning.proofs.Written.{reading-formed}

-- ---- bytes

abbrev pub Bytes : List ℕ → Type 0
Bytes bs = Every (λ b. b < 256) bs

abbrev pub Bodies : List Entry → Type 0
Bodies rs = Every (λ (r : Entry). (r.kind < 256) × Bytes r.body) rs

pub take-bytes : (n : ℕ) (bs : List ℕ) → Bytes bs → Bytes (take n bs)
take-bytes zero bs h = tt
take-bytes (suc n) [] h = tt
take-bytes (suc n) (b ∷ bs) h = (h.0, take-bytes n bs h.1)

bodies-from : (n : ℕ) (p : Phase) (at : ℕ) (bs : List ℕ) → Bytes bs → Bodies (reading_from n p at bs).records
unfolding reading_from
bodies-from zero p at bs h = tt
bodies-from (suc n) p at [] h = tt
bodies-from (suc n) p at (k ∷ bs) h =
    go (may_stand p role) (stands k bs) (bodies-from n (after_role p role) (at + 1 + size) (drop size bs) (every_drop (λ b. b < 256) size bs h.1))
  where
    size : ℕ
    size = (kind_of k).size

    role : Role
    role = (kind_of k).role

    rest : Reading
    rest = reading_from n (after_role p role) (at + 1 + size) (drop size bs)

    go : (s t : Bool) → Bodies rest.records
        → Bodies (cond s (cond t (followed_by (entry k (take size bs)) rest) (stops_at (malformed at))) (stops_at (malformed at))).records
    go true true ih = ((h.0, take-bytes size bs h.1), ih)
    go true false ih = tt
    go false t ih = tt

pub reading-bytes : (bs : List ℕ) → Bytes bs → Bodies (reading_of bs).records
unfolding reading_of
reading-bytes bs h = bodies-from (length bs) Start 0 bs h

-- ---- a word's record

record IsThree (k : ℕ) (z : Kind) : Type 0 where
  is : is_word_role z.role ≡ true → (k ≡ 3) × (z.size ≡ 4)

word-kind : (k : ℕ) → IsThree k (kind_of k)
unfolding kind_of
word-kind k = no (eqb k 1) _ refl (no (eqb k 2) _ refl (third (no (eqb k 4) _ refl (no (eqb k 5) _ refl (no (eqb k 6) _ refl (other refl))))))
  where
    other : {z : Kind} → is_word_role z.role ≡ false → IsThree k z
    other e = record { is = λ w. absurd (false-true (sym e ∙ w)) }

    no : (b : Bool) (y : Kind) → is_word_role y.role ≡ false → {z : Kind} → IsThree k z → IsThree k (cond b y z)
    no true y e h = other e
    no false y e h = h

    third : {z : Kind} → IsThree k z → IsThree k (cond (eqb k 3) (row Word 4) z)
    third {z} h = go (eqb k 3) refl
      where
        go : (b : Bool) → eqb k 3 ≡ b → IsThree k (cond b (row Word 4) z)
        go true e = record { is = λ _. (eqb-true k 3 e, refl) }
        go false e = h

pub word_size : (r : Entry) → is_word r ≡ true → (kind_of r.kind).size ≡ 4
word_size r w = ((word-kind r.kind).is w).1

four_same : (b : List ℕ) → length b ≡ 4 → Bytes b → word_entry (word_of b) ≡ entry 3 b
four_same [] e h = absurd (omega arith)
four_same (a ∷ []) e h = absurd (omega arith)
four_same (a ∷ b ∷ []) e h = absurd (omega arith)
four_same (a ∷ b ∷ c ∷ []) e h = absurd (omega arith)
four_same (a ∷ b ∷ c ∷ d ∷ []) e h = let w = word_bytes a b c d h.0 h.1.0 h.1.1.0 h.1.1.1.0 in rw (w.a-is, w.b-is, w.c-is, w.d-is)
four_same (a ∷ b ∷ c ∷ d ∷ x ∷ xs) e h = absurd (omega arith)

word_same : (r : Entry) → is_word r ≡ true → length r.body ≡ (kind_of r.kind).size → Bytes r.body → word_entry (word_of r.body) ≡ r
word_same r w e h = let k = (word-kind r.kind).is w in four_same r.body (e ∙ k.1) h ∙ ap (λ (n : ℕ). entry n r.body) (sym k.0)

-- ---- a fault stays

module _ (s : Seen) where
  upon-fault : (v : Verdict) (r : Entry) → agreed v ≡ false → upon v s r ≡ s
  upon-fault (Agree n) r e = absurd (false-true (sym e))
  upon-fault (Differs n g h) r e = refl
  upon-fault (Extra n g) r e = refl
  upon-fault (Missing n h) r e = refl
  upon-fault (Refused n w) r e = refl
  upon-fault (Malformed q) r e = refl

  closing-fault : (v : Verdict) (e : Ending) → agreed v ≡ false → closing_at v s e ≡ v
  closing-fault (Agree n) e f = absurd (false-true (sym f))
  closing-fault (Differs n g h) e f = refl
  closing-fault (Extra n g) e f = refl
  closing-fault (Missing n h) e f = refl
  closing-fault (Refused n w) e f = refl
  closing-fault (Malformed q) e f = refl

stays : (rs : List Entry) (s : Seen) → agreed s.verdict ≡ false → takings s rs ≡ s
unfolding takings taking
stays [] s f = refl
stays (r ∷ rs) s f = ap (λ (x : Seen). takings x rs) (upon-fault s s.verdict r f) ∙ stays rs s f

faults-stay : (rs : List Entry) (s : Seen) (e : Ending) (k : ℕ) → agreed s.verdict ≡ false → closing (takings s rs) e ≡ Agree k → ⊥
faults-stay rs s e k f c =
    let z : s.verdict ≡ Agree k = sym (ap (λ (x : Seen). closing x e) (stays rs s f) ∙ closing-fault s s.verdict e f) ∙ c in
    false-true (sym f ∙ ap agreed z)

-- ---- record by record

-- what is written for the records rs, where the words ws are due first, is rs, and all of them are kept
record Stands (l : Line) (ws : List ℕ) (rs : List Entry) : Type 0 where
  written : word_entries ws ++ mended l rs ≡ rs
  all-kept : kept l rs ≡ rs

abbrev Out : List Entry → Type 0
Out rs = (l : Line) (ws : List ℕ) (m n k : ℕ) → closing (takings (seen l ws m n) rs) clean ≡ Agree k → Stands l ws rs

out-end : Out []
unfolding takings mended kept
out-end l [] m n k c = record { written = refl; all-kept = refl }
out-end l (w ∷ ws) m n k c = absurd (missed c)
  where
    missed : Missing m w ≡ Agree k → ⊥
    missed e = false-true (ap agreed e)

module _ (r : Entry) (rs : List Entry) (h : is_word r ≡ false) (ih : Out rs) (l : Line) (m n k : ℕ) where
  -- a record that is no word, where no word is due
  out-head : closing (takings (seen l [] m n) (r ∷ rs)) clean ≡ Agree k → Stands l [] (r ∷ rs)
  unfolding takings
  out-head c = go (agreed (running l r).verdict) refl
    where
      go : (b : Bool) → agreed (running l r).verdict ≡ b → Stands l [] (r ∷ rs)
      go true e =
          let t = run-taken l r h e m n in
          let s = running l r in
          let g = ih s.line s.due t.number n k (ap (λ (x : Seen). closing (takings x rs) clean) (sym t.is) ∙ c) in
          record {
            written = mended-head l r rs h ∙ ap (λ (qs : List Entry). r ∷ qs) g.written;
            all-kept = kept-taken l r rs h e ∙ ap (λ (qs : List Entry). r ∷ qs) g.all-kept;
          }
      go false e =
          let t = run-refused l r h e m n in
          absurd (faults-stay rs (taking (seen l [] m n) r) clean k (ap agreed t.is) c)

-- where a word is due neither a symbol nor a finish is taken, and no second open may stand
due-first : (p : Phase) (ro : Role) (l : Line) (w : ℕ) (ws : List ℕ) (m n k : ℕ) (b : List ℕ) → begins p ≡ true → may_stand p ro ≡ true → is_word_role ro ≡ false
    → agreed (by_role ro (seen l (w ∷ ws) m n) n k b).verdict ≡ false
due-first Start Open l w ws m n k b g s h = absurd (false-true g)
due-first Opened Open l w ws m n k b g s h = absurd (false-true s)
due-first Running Open l w ws m n k b g s h = absurd (false-true s)
due-first Over Open l w ws m n k b g s h = absurd (false-true s)
due-first p Symbol l w ws m n k b g s h = refl
due-first p Word l w ws m n k b g s h = absurd (false-true (sym h))
due-first p Finish l w ws m n k b g s h = refl
due-first p Unknown l w ws m n k b g s h = absurd (false-true s)

module _ (r : Entry) (rs : List Entry) (h : is_word r ≡ true) (e : length r.body ≡ (kind_of r.kind).size) (b : Bytes r.body) (ih : Out rs) (l : Line) (m n k : ℕ) where
  word-role : (kind_of r.kind).role ≡ Word
  word-role = go (kind_of r.kind).role h
    where
      go : (ro : Role) → is_word_role ro ≡ true → ro ≡ Word
      go Open z = absurd (false-true z)
      go Symbol z = absurd (false-true z)
      go Word z = refl
      go Finish z = absurd (false-true z)
      go Unknown z = absurd (false-true z)

  says-it : (ws : List ℕ) → taking (seen l ws m n) r ≡ by_role Word (seen l ws m n) n r.kind r.body
  unfolding taking
  says-it ws = ap (λ (ro : Role). by_role ro (seen l ws m n) n r.kind r.body) word-role

  out-word : (ws : List ℕ) → closing (takings (seen l ws m n) (r ∷ rs)) clean ≡ Agree k → Stands l ws (r ∷ rs)
  unfolding takings
  out-word [] c = absurd (faults-stay rs (by_role Word (seen l [] m n) n r.kind r.body) clean k refl (ap (λ (x : Seen). closing (takings x rs) clean) (sym (says-it [])) ∙ c))
  out-word (w ∷ ws) c = go (eqb (word_of r.body) w) refl
    where
      d : closing (takings (by_role Word (seen l (w ∷ ws) m n) n r.kind r.body) rs) clean ≡ Agree k
      d = ap (λ (x : Seen). closing (takings x rs) clean) (sym (says-it (w ∷ ws))) ∙ c

      go : (a : Bool) → eqb (word_of r.body) w ≡ a → Stands l (w ∷ ws) (r ∷ rs)
      go true z =
          let g = ih l ws (m + 1) (n + 1) k (rw z at d) in
          let is : word_entry w ≡ r = ap word_entry (sym (eqb-true (word_of r.body) w z)) ∙ word_same r h e b in
          record {
            written = ap₂ (λ (q : Entry) (qs : List Entry). q ∷ qs) is (ap (λ (qs : List Entry). word_entries ws ++ qs) (mended-word l r rs h) ∙ g.written);
            all-kept = kept_word l r rs h ∙ ap (λ (qs : List Entry). r ∷ qs) g.all-kept;
          }
      go false z = absurd (faults-stay rs (seen-differs) clean k refl (rw z at d))
        where
          seen-differs : Seen
          seen-differs = record { line = l; due = w ∷ ws; number = m; verdict = Differs m (word_of r.body) w }

same : (rs : List Entry) (p : Phase) → begins p ≡ true → Formed p rs → Bodies rs → Out rs
unfolding takings taking
same [] p g f b = out-end
same (r ∷ rs) p g f b = go (is_word r) refl (same rs (after_role p ro) (begins-after p ro f.0) f.3 b.1)
  where
    ro : Role
    ro = (kind_of r.kind).role

    due-absurd : is_word r ≡ false → (l : Line) (w : ℕ) (ws : List ℕ) (m n k : ℕ) → closing (takings (seen l (w ∷ ws) m n) (r ∷ rs)) clean ≡ Agree k → ⊥
    due-absurd h l w ws m n k c = faults-stay rs (taking (seen l (w ∷ ws) m n) r) clean k (due-first p ro l w ws m n r.kind r.body g f.0 h) c

    go : (a : Bool) → is_word r ≡ a → Out rs → Out (r ∷ rs)
    go true h ih l ws m n k c = out-word r rs h f.1 b.0.1 ih l m n k ws c
    go false h ih l [] m n k c = out-head r rs h ih l m n k c
    go false h ih l (w ∷ ws) m n k c = absurd (due-absurd h l w ws m n k c)

-- ---- THE THEOREM

-- nothing is changed where the words are the same
pub replaced-none : (ws : List ℕ) → replaced_in ws ws ≡ 0
unfolding replaced_in
replaced-none [] = refl
replaced-none (w ∷ ws) = let ih = replaced-none ws in rw (eq-eqb w w refl) (omega arith)

pub changes-none : (f : List ℕ → List ℕ → ℕ) → ((ws : List ℕ) → f ws ws ≡ 0) → (gs : List (List ℕ)) → changes f gs gs ≡ 0
unfolding changes
changes-none f h [] = refl
changes-none f h (g ∷ gs) = let a = h g in let b = changes-none f h gs in omega arith

-- an agreeing capture has ended after a record
closes-clean : (s : Seen) (e : Ending) (k : ℕ) → closing s e ≡ Agree k → e ≡ clean
closes-clean s clean k c = refl
closes-clean s (malformed p) k c = absurd (go s.verdict c)
  where
    go : (v : Verdict) → closing_at v s (malformed p) ≡ Agree k → ⊥
    go (Agree n) z = false-true (ap agreed z)
    go (Differs n g h) z = false-true (ap agreed z)
    go (Extra n g) z = false-true (ap agreed z)
    go (Missing n h) z = false-true (ap agreed z)
    go (Refused n w) z = false-true (ap agreed z)
    go (Malformed q) z = false-true (ap agreed z)

-- the first record is the open
same_start : (rs : List Entry) → Formed Start rs → Bodies rs → (k : ℕ) → closing (takings nothing_seen rs) clean ≡ Agree k → Stands closed [] rs
same_start [] f b k c = out-end closed [] 0 0 k c
same_start (r ∷ rs) f b k c =
    let ro = (kind_of r.kind).role in
    out-head r rs (first ro f.0) (same rs (after_role Start ro) (begins-after Start ro f.0) f.3 b.1) closed 0 0 k c
  where
    first : (ro : Role) → may_stand Start ro ≡ true → is_word_role ro ≡ false
    first Open s = refl
    first Symbol s = refl
    first Word s = absurd (false-true s)
    first Finish s = refl
    first Unknown s = refl

abbrev pub unchanged : List ℕ → Salvage
unchanged bs = record { bytes = bs; replaced = 0; added = 0; removed = 0; cut = 0 }

pub agreed-same : (bs : List ℕ) → Bytes bs → (k : ℕ) → verdict_of bs ≡ Agree k → salvage_of bs ≡ unchanged bs
unfolding salvage_of verdict_of
agreed-same bs h k v =
    let q = reading_of bs in
    let e : q.ending ≡ clean = closes-clean (takings nothing_seen q.records) q.ending k v in
    let c : closing (takings nothing_seen q.records) clean ≡ Agree k = ap (λ (x : Ending). closing (takings nothing_seen q.records) x) (sym e) ∙ v in
    let g = same_start q.records (reading-formed bs) (reading-bytes bs h) k c in
    let is : bytes_of q.records ≡ bs = (read-exact bs).bytes e in
    let gs = words_after q.records in
    let a = changes-none replaced_in replaced-none gs in
    let b = changes-none added_in (λ ws. omega arith) gs in
    let d = changes-none removed_in (λ ws. omega arith) gs in
    let z : length bs - length bs ≡ 0 = omega arith in
    rw (g.all-kept, g.written, is, a, b, d, z)
