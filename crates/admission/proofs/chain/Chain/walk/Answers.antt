use Rattle.std.proofs.Common.{◌≡◌, ◌<◌, ◌≤◌, ◌⊎◌, sym, refl, ◌∙◌, subst, inl, inr, arith}
use Rattle.admission.specs.Tables.{records, next}
use Rattle.admission.proofs.Walk.{begun, goes_on_lem, unlinked, breaks, ends, all_marked}
use Rattle.admission.proofs.chain.Chain.walk.Goals as goal
use Rattle.admission.proofs.chain.Chain.walk.Goals.{then-next-index-via-then-next-index, then-next-index-via-else-next-index+then-next-records}

pub loop-table-init : goal.loop-table-init
loop-table-init c = (begun c.args.table.numbers.now, omega arith)

pub invariant_of-result : goal.invariant_of-result
invariant_of-result c =
    let other = c.if-index-ne0.true in
    record { marked = all_marked _ c.args.table.few _ _ c.loop-table.invariant.0 (sym c.next-next.ensures ∙ c.if-next-eq0.true) (omega arith) }

pub returns-then-index-ne0 : goal.returns-then-index-ne0
returns-then-index-ne0 c =
    let other = c.if-index-ne0.true in
    (refl, ends _ c.args.table.few _ _ c.loop-table.invariant.0 (sym c.next-next.ensures ∙ c.if-next-eq0.true) (omega arith))

pub returns-then-next-index : goal.returns-then-next-index
returns-then-next-index c =
    let T = c.args.table.numbers.now in
    let k = c.loop-table.index in
    let is = c.next-next.ensures in
    let no_end : next T k ≡ 0 → k ≡ 0 = λ e. grind arith in
    let no-next : (next T k ≤ k) ⊎ (records T < next T k) =
    elim c.then-next-index.branch [
      | then-next-index-via-then-next-index w ↦ inl (subst (λ x. x ≤ k) is w.if-next-index.true)
      | then-next-index-via-else-next-index+then-next-records w ↦ inr (let more = w.if-next-records.true in let all = w.records.ensures in omega arith)
    ]
    in
    (refl, breaks _ c.args.table.few _ _ c.loop-table.invariant.0 (unlinked T k no_end no-next))

pub loop-table-preserved : goal.loop-table-preserved
loop-table-preserved c =
    let all = c.records.ensures in
    let low : c.next-next.result ≤ records c.args.table.numbers.now = omega arith in
    rw c.from.ensures (goes_on_lem _ c.args.table.few _ _ c.loop-table.invariant.0 _ (sym c.next-next.ensures) c.if-next-index.false low, low)
