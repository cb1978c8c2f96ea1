use Rattle.std.proofs.Common.{refl, sym, ◌∙◌}
use Rattle.std.proofs.lemmas.Bool.{false≢true}
use Rattle.page_format.proofs.FormLemmas.{laid_of_page}
use Rattle.page_format.proofs.HeldLemmas.{kept_read, chunk_is, page_by_chunk, page_of_chunk}
use Rattle.page_format.proofs.page.Page.of.Goals as goal
use Rattle.page_format.proofs.page.Page.of.Goals.{then-four_at-number-via-then-four_at-number, then-four_at-number-via-else-four_at-number+then-two_at-ne0}
use Rattle.page_format.proofs.page.Page.of.Goals.{then-four_at-number-via-else-four_at-number+else-two_at-ne0+then-not-is_laid}

pub returns-then-four_at-number-clause-absent : goal.returns-then-four_at-number-clause-absent
returns-then-four_at-number-clause-absent c =
    λ slots given.
    let chunk = chunk_is 4096 c.args.bytes.now c.in_ok-bytes.bytes.now c.if-bytes-ne-PAGE_LEN.false c.in_ok-bytes.ensures.cases.same in
    let page = page_by_chunk c.args.number c.args.bytes.now c.in_ok-bytes.bytes.now slots chunk given in
    elim c.then-four_at-number.branch [
      | then-four_at-number-via-then-four_at-number w ↦ w.if-four_at-number.true (c.four_at.ensures ∙ page.numbered)
      | then-four_at-number-via-else-four_at-number+then-two_at-ne0 w ↦ w.if-two_at-ne0.true (w.two_at.ensures ∙ page.zero)
      | then-four_at-number-via-else-four_at-number+else-two_at-ne0+then-not-is_laid w ↦
          false≢true (w.if-not-is_laid.ensures.value.1 (laid_of_page c.args.number c.in_ok-bytes.bytes.now slots page))
    ]

pub invariant_of-result : goal.invariant_of-result
invariant_of-result c =
    let laid = c.if-not-is_laid.ensures.value.0 refl in
    kept_read c.args.number c.in_ok-bytes.bytes.now c.requires (sym c.four_at.ensures ∙ c.if-four_at-number.false) (sym c.two_at.ensures ∙ c.if-two_at-ne0.false) laid
    (c.if-not-is_laid.ensures.room refl)

pub returns-clause-found : goal.returns-clause-found
returns-clause-found c =
    let numbered = sym c.four_at.ensures ∙ c.if-four_at-number.false in
    let chunk = chunk_is 4096 c.args.bytes.now c.in_ok-bytes.bytes.now c.if-bytes-ne-PAGE_LEN.false c.in_ok-bytes.ensures.cases.same in (
      numbered,
      page_of_chunk c.args.number c.args.bytes.now c.in_ok-bytes.bytes.now chunk (c.if-not-is_laid.ensures.value.0 refl) numbered (sym c.two_at.ensures ∙ c.if-two_at-ne0.false),
    )
