use Rattle.haul_table.proofs.Standing.{law_holds}
use Rattle.haul_table.proofs.table.HaulTable.worth.Goals as goal

pub returns-clause-law : goal.returns-clause-law
returns-clause-law g c = law_holds g.met.W.Worth.lawful
