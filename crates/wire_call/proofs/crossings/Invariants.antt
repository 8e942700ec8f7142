use Rattle.cut.specs.declared.Cut.TheVariants.{Row, Column}
use Rattle.wire_call.proofs.crossings.Given as goal

abbrev pub ghost-crossings_of : goal.ghost-crossings_of
ghost-crossings_of a = Row

abbrev pub ghost-crossings_of-2 : goal.ghost-crossings_of-2
ghost-crossings_of-2 a = Column
