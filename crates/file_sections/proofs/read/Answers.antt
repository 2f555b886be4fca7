-- `file_sections::read` meets its contract: what is left of the file says what the whole says (`Walking`). Assumes nothing.
use mathlib.Core.Path.{◌≡◌, sym, ◌∙◌, ap, subst}
use Prim.Native.Nat.{◌+◌}
use native.Mathlib.Omega.{arith}
use Rattle.answer.proofs.Checks.{handed}
use Rattle.rules.specs.Setting.{Prices}
use Rattle.setting.specs.Asked.{prices_asked}
use Rattle.file_step.specs.declared.Walk as F
use Rattle.file_sections.specs.Walk.{told, read_answer}
use Rattle.file_sections.proofs.Walking as W
use Rattle.file_sections.proofs.Walking.{Walking, Turn}
use Rattle.file_sections.proofs.read.Goals.{At-loop-at, In-loop-at}
use Rattle.file_sections.proofs.read.Goals as goal

-- the walk began with the prices needed or not, as asked
began : (c : At-loop-at) → prices_asked c.start-w.result.prices_asked ≡ prices_asked c.args.prices
began c = ap (λ (w : F.Walk). prices_asked w.prices_asked) c.start-w.ensures

walking : (c : At-loop-at) → Walking (prices_asked c.args.prices) c.args.file.now c.loop-at.w c.loop-at.at
walking c = subst (λ (x : Prices). Walking x c.args.file.now c.loop-at.w c.loop-at.at) (began c) c.loop-at.invariant

turn : (c : In-loop-at) → Turn (prices_asked c.args.prices) c.args.file.now c.loop-at.w c.loop-at.at
turn c = record { some = c.if-file-lt1.false; short = c.if-file-gt-LONGEST_FILE.false; walking = walking (goal.at.next_at-requires c).At-loop-at; more = c.loop-at-test.true }

pub returns-then-file-lt1 : goal.returns-then-file-lt1
returns-then-file-lt1 c = ap read_answer (W.empty _ _ c.if-file-lt1.true)

pub returns-then-file-gt-LONGEST_FILE : goal.returns-then-file-gt-LONGEST_FILE
returns-then-file-gt-LONGEST_FILE c = ap read_answer (W.too_long _ _ c.if-file-lt1.false c.if-file-gt-LONGEST_FILE.true)

pub loop-at-init : goal.loop-at-init
loop-at-init c = rw c.start-w.ensures (W.walk_start _ _)

pub next_at-requires : goal.next_at-requires
next_at-requires c = W.steppable _ _ _ _ (turn c)

pub overflow_add-at : goal.overflow_add-at
overflow_add-at c = omega (arith, W.moves _ _ _ _ (turn (goal.at.overflow_add-at c).In-loop-at) c.next_at.ensures c.in_ok-next.was c.in-Next.is)

pub loop-at-smaller : goal.loop-at-smaller
loop-at-smaller c = omega (arith, W.moves _ _ _ _ (turn (goal.at.loop-at-smaller c).In-loop-at) c.next_at.ensures c.in_ok-next.was c.in-Next.is)

pub loop-at-preserved : goal.loop-at-preserved
loop-at-preserved c =
    subst
    (λ (x : Prices). Walking x c.args.file.now c.in-Next.next (c.loop-at.at + c.in-Next.size))
    (sym (began (goal.at.loop-at-preserved c).At-loop-at))
    (W.goes_on _ _ _ _ (turn (goal.at.loop-at-preserved c).In-loop-at) c.next_at.ensures c.in_ok-next.was c.in-Next.is)

pub laid_out-requires : goal.laid_out-requires
laid_out-requires c = W.few _ _ _ _ (turn (goal.at.laid_out-requires c).In-loop-at)

pub returns-then-file-at-eq-END_SIZE : goal.returns-then-file-at-eq-END_SIZE
returns-then-file-at-eq-END_SIZE c =
    W.accepts _ _ _ _ (turn (goal.at.returns-then-file-at-eq-END_SIZE c).In-loop-at) c.next_at.ensures c.in_ok-next.was c.in-End.is
    c.if-file-at-eq-END_SIZE.true
    c.laid_out.ensures

pub overflow_add-result : goal.overflow_add-result
overflow_add-result c = omega (arith, W.few _ _ _ _ (turn (goal.at.overflow_add-result c).In-loop-at))

pub returns-in-End : goal.returns-in-End
returns-in-End c =
    W.goes_past _ _ _ _ (turn (goal.at.returns-in-End c).In-loop-at) c.next_at.ensures c.in_ok-next.was c.in-End.is c.if-file-at-eq-END_SIZE.false

pub returns-in_err-next : goal.returns-in_err-next
returns-in_err-next c =
    ap told (handed c.from_residual.ensures)
    ∙ W.refuses _ _ _ _ (turn (goal.at.returns-in_err-next c).In-loop-at) c.next_at.ensures c.in_err-next.was

pub returns : goal.returns
returns c =
    W.never_ends _ _ c.if-file-lt1.false c.if-file-gt-LONGEST_FILE.false _ _ (walking (goal.at.returns c).At-loop-at) (omega arith)
