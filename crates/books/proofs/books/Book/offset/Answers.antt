use Rattle.std.proofs.Common.{rules}
use Rattle.books.proofs.Offsets.{offset_fits}
use Rattle.books.proofs.books.Book.offset.Goals as goal

pub returns-clause-inside : goal.returns-clause-inside
returns-clause-inside c = offset_fits c.args.self.now.bytes.now c.args.place c.offset.result (search rules)
