-- `extent_of` is the definition, case by case.
use Rattle.cut.proofs.extent_of.Goals as goal

pub returns-in-Row : goal.returns-in-Row
returns-in-Row c = cc

pub returns-in-Column : goal.returns-in-Column
returns-in-Column c = cc
