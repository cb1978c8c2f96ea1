use Rattle.std.proofs.Common.{◌∙◌, [], sym, ap, subst, arith}
use Rattle.row_format.specs.Rows.{same_row}
use Rattle.live_tables.specs.Stored.{StandsAt}
use Rattle.live_tables.proofs.StoredLemmas.{CameAt, came_by_key, came_by_place, it_stands, none_stands}
use Rattle.live_tables.proofs.stored.place_before.Goals as goal
use Rattle.live_tables.proofs.stored.place_before.Goals.{in-Some, in-None}

pub returns-in_err-row-clause-found : goal.returns-in_err-row-clause-found
returns-in_err-row-clause-found c = λ ordered.
    let key = c.args.key in
    let rows = c.args.rows.now in
    let before = c.args.before.now in
    let came : CameAt key c.args.place before rows c.match-key.i = elim c.match-key.branch [
      | in-Some w ↦
          came_by_key key w.in-Some.column c.args.place before rows c.match-key.i w.count_below_row-i.result w.in-Some.is w.i-is w.count_below_row-i.ensures.within w.count_below_row-i.ensures.parted
      | in-None w ↦ came_by_place key c.args.place before rows c.match-key.i w.in-None.is w.i-is
    ] in
    subst (StandsAt key c.args.place before rows) (sym c.from_residual.ensures)
    (none_stands key c.args.place before rows c.match-key.i ordered came (λ h. absurd (omega (arith, h, c.in_err-row.ensures.lookup.3))))

pub returns-then-is_same_row-clause-found : goal.returns-then-is_same_row-clause-found
returns-then-is_same_row-clause-found c = λ ordered.
    let key = c.args.key in
    let rows = c.args.rows.now in
    let before = c.args.before.now in
    let came : CameAt key c.args.place before rows c.match-key.i = elim c.match-key.branch [
      | in-Some w ↦
          came_by_key key w.in-Some.column c.args.place before rows c.match-key.i w.count_below_row-i.result w.in-Some.is w.i-is w.count_below_row-i.ensures.within w.count_below_row-i.ensures.parted
      | in-None w ↦ came_by_place key c.args.place before rows c.match-key.i w.in-None.is w.i-is
    ] in
    let at = c.in_ok-row.ensures.lookup.3 in
    it_stands key c.args.place before rows c.match-key.i ordered came at.0
    (ap (λ r. same_row r before) (sym (at.1 [])) ∙ sym c.is_same_row.ensures ∙ c.if-is_same_row.true)

pub returns-else-is_same_row-clause-found : goal.returns-else-is_same_row-clause-found
returns-else-is_same_row-clause-found c = λ ordered.
    let key = c.args.key in
    let rows = c.args.rows.now in
    let before = c.args.before.now in
    let came : CameAt key c.args.place before rows c.match-key.i = elim c.match-key.branch [
      | in-Some w ↦
          came_by_key key w.in-Some.column c.args.place before rows c.match-key.i w.count_below_row-i.result w.in-Some.is w.i-is w.count_below_row-i.ensures.within w.count_below_row-i.ensures.parted
      | in-None w ↦ came_by_place key c.args.place before rows c.match-key.i w.in-None.is w.i-is
    ] in
    let at = c.in_ok-row.ensures.lookup.3 in
    none_stands key c.args.place before rows c.match-key.i ordered came
    (λ h. ap (λ r. same_row r before) (sym (at.1 [])) ∙ sym c.is_same_row.ensures ∙ c.if-is_same_row.false)
