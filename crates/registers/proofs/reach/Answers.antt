-- `reach`: one word, two, or three.
use Rattle.std.proofs.Common.{ℕ, ◌-◌, List, ap, ap₂, ◌∙◌}
use borrow.Author.Tests.{le-leb, lt-leb}
use Rattle.registers.specs.Registers.{parted_of, above_of, reach_of}
use Rattle.registers.proofs.reach.Goals as goal

pub returns-then-n-le64 : goal.returns-then-n-le64
unfolding reach_of
returns-then-n-le64 c =
    rw (le-leb _ _ c.if-n-le64.true) (c.parted.ensures.0 ∙ ap (λ (l : List ℕ). parted_of l c.args.n) c.requires)

pub returns-then-n-le128 : goal.returns-then-n-le128
unfolding reach_of
returns-then-n-le128 c =
    let a = c.parted-then-n-le128.ensures.0 ∙ ap (λ (l : List ℕ). parted_of l (c.args.n - 64)) c.words_before-middle.ensures in
    let b = c.parted-then-n-le128-2.ensures.0 ∙ ap (λ (l : List ℕ). parted_of l 64) c.requires in
    rw (lt-leb _ _ c.if-n-le64.false, le-leb _ _ c.if-n-le128.true) (c.above.ensures ∙ ap₂ (λ (x y : ℕ). above_of x 64 y) a b)

pub returns : goal.returns
unfolding reach_of
returns c =
    let a = c.parted-4.ensures.0 ∙ ap (λ (l : List ℕ). parted_of l (c.args.n - 128)) c.words_before-high.ensures in
    let b = c.parted-2.ensures.0 ∙ ap (λ (l : List ℕ). parted_of l 64) c.words_before-middle.ensures in
    let d = c.parted-3.ensures.0 ∙ ap (λ (l : List ℕ). parted_of l 64) c.requires in
    rw (lt-leb _ _ c.if-n-le64.false, lt-leb _ _ c.if-n-le128.false) (c.above-2.ensures ∙ ap₂ (λ (m n : ℕ). above_of m 128 n) a (c.above-low.ensures ∙ ap₂ (λ (m n : ℕ). above_of m 64 n) b d))
