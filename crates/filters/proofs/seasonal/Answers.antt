-- `filters::seasonal` meets its contract: each arm has the filter of its rows.
use Rattle.filters.proofs.seasonal.Goals as goal

pub returns-in-ThreeByThree : goal.returns-in-ThreeByThree
returns-in-ThreeByThree c = rw c.in-ThreeByThree.is c.three_by_three.ensures

pub returns-in-ThreeByFive : goal.returns-in-ThreeByFive
returns-in-ThreeByFive c = rw c.in-ThreeByFive.is c.three_by_five.ensures

pub returns-in-ThreeByNine : goal.returns-in-ThreeByNine
returns-in-ThreeByNine c = rw c.in-ThreeByNine.is c.three_by_nine.ensures
