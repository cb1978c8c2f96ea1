-- Bytes that are a page, by the format and by what is kept of them.
use Rattle.std.proofs.Common.{◌≡◌, ℕ, List, sym, ◌∙◌, arith}
use Rattle.page_format.specs.Format.{two_at, four_at, IsPage}
use Rattle.page_format.specs.Kept.{slots_of, IsLaid}
use Rattle.page_format.proofs.SlotsLemmas.{length-slots_of, get_or-slots_of, slots_of_is}

-- a page has the slots that its bytes tell of
pub slots_of_page : (number : ℕ) (bytes : List ℕ) (slots : List (List ℕ)) → IsPage number bytes slots → slots ≡ slots_of bytes
slots_of_page number bytes slots page = sym (slots_of_is bytes slots page.counted page.rows)

-- its records are laid out so that they do not overlap
pub laid_of_page : (number : ℕ) (bytes : List ℕ) (slots : List (List ℕ)) → IsPage number bytes slots → IsLaid bytes
laid_of_page number bytes slots page =
    record {
      whole = page.whole;
      directory = omega (arith, page.counted, page.directory);
      elsewhere = λ slot at there of.
          let e = page.elsewhere slot at (omega (arith, page.counted)) of in (omega (arith, page.counted, e.0), e.1);
      apart = λ one other at h i. page.apart one other at (omega (arith, page.counted)) (omega (arith, page.counted));
    }

-- bytes that are laid out so are a page with the slots that they tell of
pub page_of_laid : (number : ℕ) (bytes : List ℕ) → IsLaid bytes → four_at bytes 0 ≡ number → two_at bytes 6 ≡ 0 → IsPage number bytes (slots_of bytes)
page_of_laid number bytes laid numbered zero =
    let count = length-slots_of bytes in
    record {
      whole = laid.whole;
      numbered = numbered;
      counted = sym count;
      zero = zero;
      directory = omega (arith, laid.directory);
      rows = λ slot there. sym (get_or-slots_of bytes slot (omega arith));
      elsewhere = λ slot at there of. let e = laid.elsewhere slot at (omega arith) of in (omega (arith, e.0), e.1);
      apart = λ one other at h i. laid.apart one other at (omega arith) (omega arith);
    }

-- bytes are a page of one number with one list of slots at most
pub one_page_lem : (bytes : List ℕ) (one other : ℕ) (slots others : List (List ℕ)) → IsPage one bytes slots → IsPage other bytes others → (one ≡ other) × (slots ≡ others)
one_page_lem bytes one other slots others p q =
    (sym p.numbered ∙ q.numbered, slots_of_page one bytes slots p ∙ sym (slots_of_page other bytes others q))
