use Rattle.std.proofs.Common.{ap, ◌∙◌}
use Rattle.books.specs.Books.{places_by}
use Rattle.books.proofs.Offsets.{rewritten}
use Rattle.books.proofs.books.WorkingBook.put.Goals as goal

pub returns-clause-stays : goal.returns-clause-stays
returns-clause-stays c q =
    ap (λ x. places_by x q) (rewritten _ _ _ _ _ c.requires.found c.requires.low (c.copy_from_slice.ensures.after ∙ c.to_be_bytes.ensures)).header

pub returns-clause-places : goal.returns-clause-places
returns-clause-places c = (rewritten _ _ _ _ _ c.requires.found c.requires.low (c.copy_from_slice.ensures.after ∙ c.to_be_bytes.ensures)).places

pub returns-clause-kept : goal.returns-clause-kept
returns-clause-kept c = (rewritten _ _ _ _ _ c.requires.found c.requires.low (c.copy_from_slice.ensures.after ∙ c.to_be_bytes.ensures)).kept
