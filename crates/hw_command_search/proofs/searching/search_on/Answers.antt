use Rattle.std.proofs.Common.{None}
use Rattle.hw_command_search.specs.Finding.{found_of, found_by_crew}
use Rattle.hw_command_search.specs.declared.searcher.Search.TheVariants.{Solve, Prove, Crew}
use Rattle.hw_command_search.proofs.Meeting.{crew_meets, meets_as, prove_meets, solve_meets}
use Rattle.hw_command_search.proofs.searching.search_on.Goals as goal

pub returns-in-Solve-clause-meets : goal.returns-in-Solve-clause-meets
returns-in-Solve-clause-meets g c =
    let x = g.D.Desk.state c.args.desk.now in
    let y = g.D.Desk.state c.solve_on.new.desk in
    let found = found_of c.args.budget c.solve_on.result None in
    meets_as c.args.how.now Solve c.args.flat.now c.args.budget c.found_of.result found x y c.in-Solve.is c.found_of.ensures (solve_meets c.solve_on.result c.solve_on.ensures.solves c.solve_on.ensures.kept)

pub returns-in-Prove-clause-meets : goal.returns-in-Prove-clause-meets
returns-in-Prove-clause-meets g c =
    let x = g.D.Desk.state c.args.desk.now in
    let y = g.D.Desk.state c.prove_on-solved.new.desk in
    let proved = c.prove_on-solved.result in
    let found = found_of c.args.budget proved.solved proved.bound in
    meets_as c.args.how.now (Prove c.in-Prove.seed) c.args.flat.now c.args.budget c.found_of-in-Prove.result found x y c.in-Prove.is c.found_of-in-Prove.ensures (prove_meets proved.solved proved.bound c.prove_on-solved.ensures.proves c.prove_on-solved.ensures.kept)

pub returns-in-Crew-clause-meets : goal.returns-in-Crew-clause-meets
returns-in-Crew-clause-meets g c =
    let x = g.D.Desk.state c.args.desk.now in
    let y = g.D.Desk.state c.crew_on.new.desk in
    let found = found_by_crew c.args.budget c.crew_on.result in
    meets_as c.args.how.now (Crew c.in-Crew.order) c.args.flat.now c.args.budget c.found_by_crew.result found x y c.in-Crew.is c.found_by_crew.ensures (crew_meets c.crew_on.result c.crew_on.ensures.crews)
