-- WHAT SALVAGE WRITES REPLAYS AS AGREEING.
--   reading-formed   the records of a reading may stand where they stand, however it ends
--   kept-formed, mended-formed   so may those that are kept, and those that are written for them
--   mended-seen      a replay of what is written finds no fault and misses no word
--   written-agrees   THE THEOREM
use mathlib.Core.Path.{◌≡◌, refl, sym, ap, subst, ◌∙◌}
use mathlib.Core.Bool.{Bool, true, false, cond}
use mathlib.Core.List.{List, [], ◌∷◌, ◌++◌}
use Prim.Native.Nat.{ℕ, zero, suc, ◌+◌}
use borrow.Author.Tests.{leb-true}
use lib.Dec.{eqb, leb}
use lib.ListN.{length, take, drop}
use lib.Seq.{length-take-le}
use Rattle.openings.specs.Given.{start_at}
use Rattle.openings.specs.Opening.{opening_owed}
use Rattle.records.specs.declared.Role.{Role}
use Rattle.records.specs.declared.Role.TheVariants.{Open, Symbol, Word, Finish, Unknown}
use Rattle.records.specs.declared.Phase.{Phase}
use Rattle.records.specs.declared.Phase.TheVariants.{Start, Running, Over}
use Rattle.records.specs.Kinds.{kind_of, may_stand, after_role, begins}
use Rattle.records.specs.Values.{Entry, entry, accord_of, window_of, start_of, body_fits, bytes_of}
use Rattle.records.specs.Reading.{clean, malformed, Reading, stops_at, followed_by, stands, reading_from, reading_of}
use Rattle.records.proofs.Fits.{both_true}
use Rattle.records.proofs.Back.{read_back}
use Rattle.records.proofs.Steps.{begins-after}
use Rattle.record_write.specs.Front.{word_entries}
use Rattle.replay_judge.specs.declared.Verdict.TheVariants.{Agree, Refused}
use Rattle.replay.specs.Meaning.{Line, closed, told, agreed, Seen, nothing_seen, fault, went, opened, by_role, taking, takings, closing, verdict_of}
use Rattle.replay.proofs.Meant.{FineLine}
use Rattle.replay.proofs.Forms.{Formed, phase_after, well, formed-append, words-formed}
use Rattle.replay.proofs.Words.{seen, takings-append, words-seen}
use Rattle.salvage_meaning.specs.Salvage.{is_word_role, is_word, waiting, running, kept, mended, salvage_of}
use Rattle.salvage_meaning.proofs.Running.{false-true, run-taken, fine-running, small-running}
use Rattle.salvage_meaning.proofs.Steps.{kept_word, kept-taken, kept-refused, mended-word, mended-head}

-- ---- the form

-- no record, or one and those after it
formed-more : (p : Phase) (at : ℕ) (s t : Bool) (r : Entry) (q : Reading) → (s ≡ true → t ≡ true → Formed p (r ∷ q.records))
    → Formed p (cond s (cond t (followed_by r q) (stops_at (malformed at))) (stops_at (malformed at))).records
formed-more p at true true r q f = f refl refl
formed-more p at true false r q f = tt
formed-more p at false t r q f = tt

formed-from : (n : ℕ) (p : Phase) (at : ℕ) (bs : List ℕ) → Formed p (reading_from n p at bs).records
unfolding reading_from
formed-from zero p at bs = tt
formed-from (suc n) p at [] = tt
formed-from (suc n) p at (k ∷ bs) =
    let size = (kind_of k).size in
    let role = (kind_of k).role in
    let ih = formed-from n (after_role p role) (at + 1 + size) (drop size bs) in
    formed-more p at (may_stand p role) (stands k bs) (entry k (take size bs)) (reading_from n (after_role p role) (at + 1 + size) (drop size bs))
    (λ a w. let v = both_true (leb size (length bs)) (body_fits k (take size bs)) w in (a, length-take-le size bs (leb-true size (length bs) v.0), v.1, ih))

pub reading-formed : (bs : List ℕ) → Formed Start (reading_of bs).records
unfolding reading_of
reading-formed bs = formed-from (length bs) Start 0 bs

pub kept-formed : (p : Phase) (l : Line) (rs : List Entry) → Formed p rs → Formed p (kept l rs)
unfolding kept
kept-formed p l [] f = tt
kept-formed p l (r ∷ rs) f = go (is_word r) refl (agreed (running l r).verdict) refl (λ q. kept-formed (after_role p (kind_of r.kind).role) q rs f.3)
  where
    go : (a : Bool) → is_word r ≡ a → (b : Bool) → agreed (running l r).verdict ≡ b → ((q : Line) → Formed (after_role p (kind_of r.kind).role) (kept q rs))
        → Formed p (kept l (r ∷ rs))
    go true h b e ih = subst (Formed p) (sym (kept_word l r rs h)) (f.0, f.1, f.2, ih l)
    go false h true e ih = subst (Formed p) (sym (kept-taken l r rs h e)) (f.0, f.1, f.2, ih (running l r).line)
    go false h false e ih = subst (Formed p) (sym (kept-refused l r rs h e)) tt

-- a word leaves the phase; the words of a symbol or a finish may stand after it, and an open gives none
word-stays : (p : Phase) (r : Role) → is_word_role r ≡ true → after_role p r ≡ p
word-stays p Open h = absurd (false-true h)
word-stays p Symbol h = absurd (false-true h)
word-stays p Word h = refl
word-stays p Finish h = absurd (false-true h)
word-stays p Unknown h = absurd (false-true h)

open_none : (l : Line) (r : Role) (k : ℕ) (b : List ℕ) → r ≡ Open → (by_role r (waiting l) 0 k b).due ≡ []
open_none l r k b e = rw e (go (eqb (opening_owed (accord_of k b) (window_of b) (start_at (start_of b))) 0))
  where
    go : (c : Bool) → (cond c (went (waiting l) (told (opened k b)) []) (fault (waiting l) (Refused 0 (opening_owed (accord_of k b) (window_of b) (start_at (start_of b)))))).due ≡ []
    go true = refl
    go false = refl

words-stand : (p : Phase) (r : Role) (ws : List ℕ) (qs : List Entry) → is_word_role r ≡ false → may_stand p r ≡ true → (r ≡ Open → ws ≡ []) → Formed (after_role p r) qs
    → Formed (after_role p r) (word_entries ws ++ qs)
words-stand p Open ws qs h m none f = rw (none refl) f
words-stand p Symbol ws qs h m none f = let k = words-formed Running refl ws in formed-append Running (word_entries ws) qs k.0 (rw k.1 f)
words-stand p Word ws qs h m none f = absurd (false-true (sym h))
words-stand p Finish ws qs h m none f = let k = words-formed Over refl ws in formed-append Over (word_entries ws) qs k.0 (rw k.1 f)
words-stand p Unknown ws qs h m none f = absurd (false-true m)

pub mended-formed : (p : Phase) (l : Line) (rs : List Entry) → Formed p rs → Formed p (mended l rs)
unfolding mended taking
mended-formed p l [] f = tt
mended-formed p l (r ∷ rs) f = go (is_word r) refl (λ q. mended-formed (after_role p (kind_of r.kind).role) q rs f.3)
  where
    go : (a : Bool) → is_word r ≡ a → ((q : Line) → Formed (after_role p (kind_of r.kind).role) (mended q rs)) → Formed p (mended l (r ∷ rs))
    go true h ih = subst (Formed p) (sym (mended-word l r rs h)) (subst (λ (q : Phase). Formed q (mended l rs)) (word-stays p (kind_of r.kind).role h) (ih l))
    go false h ih =
        let s = running l r in
        let ro = (kind_of r.kind).role in
        subst (Formed p) (sym (mended-head l r rs h))
        (f.0, f.1, f.2, words-stand p ro s.due (mended s.line rs) h f.0 (open_none l ro r.kind r.body) (ih s.line))

-- once a record stands there the capture has begun
begun-after : (p : Phase) (r : Entry) (rs : List Entry) → Formed p (r ∷ rs) → begins (phase_after p (r ∷ rs)) ≡ true
begun-after p r [] f = begins-after p (kind_of r.kind).role f.0
begun-after p r (q ∷ qs) f = begun-after (after_role p (kind_of r.kind).role) q qs f.3

-- ---- what a replay sees of it

record Sees (s : Seen) (rs : List Entry) : Type 0 where
  line : Line
  number : ℕ
  words : ℕ
  is : takings s rs ≡ seen line [] number words

module _ (l : Line) (r : Entry) (qs : List Entry) (f : FineLine l) (h : is_word r ≡ false) (e : agreed (running l r).verdict ≡ true) where
  -- the record, the words that belong there, and the rest
  head-seen : (m n : ℕ) → ((m n : ℕ) → Sees (seen (running l r).line [] m n) qs) → Sees (seen l [] m n) (r ∷ (word_entries (running l r).due ++ qs))
  unfolding takings
  head-seen m n ih =
      let s = running l r in
      let ws = s.due in
      let t = run-taken l r h e m n in
      let k = ih (t.number + length ws) (n + length ws) in
      record {
        line = k.line;
        number = k.number;
        words = k.words;
        is =
            ap (λ (x : Seen). takings x (word_entries ws ++ qs)) t.is
            ∙ takings-append (seen s.line ws t.number n) (word_entries ws) qs
            ∙ ap (λ (x : Seen). takings x qs) (words-seen s.line ws t.number n (small-running l r h f))
            ∙ k.is;
      }

mended-seen : (rs : List Entry) (l : Line) → FineLine l → (m n : ℕ) → Sees (seen l [] m n) (mended l (kept l rs))
unfolding takings kept mended
mended-seen [] l f m n = record { line = l; number = m; words = n; is = refl }
mended-seen (r ∷ rs) l f m n = go (is_word r) refl (agreed (running l r).verdict) refl (mended-seen rs)
  where
    s : Seen
    s = running l r

    go : (a : Bool) → is_word r ≡ a → (b : Bool) → agreed s.verdict ≡ b → ((q : Line) → FineLine q → (m n : ℕ) → Sees (seen q [] m n) (mended q (kept q rs)))
        → Sees (seen l [] m n) (mended l (kept l (r ∷ rs)))
    go true h b e ih = subst (Sees (seen l [] m n)) (sym (ap (mended l) (kept_word l r rs h) ∙ mended-word l r (kept l rs) h)) (ih l f m n)
    go false h true e ih =
        subst (Sees (seen l [] m n)) (sym (ap (mended l) (kept-taken l r rs h e) ∙ mended-head l r (kept s.line rs) h))
        (head-seen l r (mended s.line (kept s.line rs)) f h e m n (ih s.line (fine-running l r f)))
    go false h false e ih =
        subst (λ (qs : List Entry). Sees (seen l [] m n) (mended l qs)) (sym (kept-refused l r rs h e)) (record { line = l; number = m; words = n; is = refl })

-- ---- THE THEOREM

pub record Agreeing (bs : List ℕ) : Type 0 where
  pub words : ℕ
  pub verdict : verdict_of bs ≡ Agree words

records-agree : (rs : List Entry) → Formed Start rs → Sees nothing_seen rs → (bytes_of rs ≡ [] → ⊥) → Agreeing (bytes_of rs)
unfolding verdict_of bytes_of
records-agree [] f k some = absurd (some refl)
records-agree (r ∷ rs) f k some =
    let all = r ∷ rs in
    let w = read_back all (well Start all f (begun-after Start r rs f)) in
    record {
      words = k.words;
      verdict = ap (λ (q : Reading). closing (takings nothing_seen q.records) q.ending) w ∙ ap (λ (s : Seen). closing s clean) k.is;
    }

pub written-agrees : (bs : List ℕ) → ((salvage_of bs).bytes ≡ [] → ⊥) → Agreeing (salvage_of bs).bytes
unfolding salvage_of
written-agrees bs some =
    let rs = (reading_of bs).records in
    let old = kept closed rs in
    records-agree (mended closed old) (mended-formed Start closed old (kept-formed Start closed rs (reading-formed bs))) (mended-seen rs closed tt 0 0) some
