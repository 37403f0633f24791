use Rattle.std.proofs.Common.{subst, sym}
use Rattle.std.specs.List.{All}
use Rattle.std.proofs.lemmas.Result.{IfOk-weaker}
use Rattle.sh_admission.specs.Found.{IsWithin, OfCut, OfNote}
use Rattle.sh_admission.proofs.FoundLaws.{IsFound, IsFoundIn, of_results, with_cuts, without_cuts}
use Rattle.sh_admission.proofs.admission.check_func.Goals as goal

pub returns-in-None : goal.returns-in-None
returns-in-None c =
    let f = c.args.f.now in
    without_cuts c.args.table.now f c.args.least c.in_ok-noted.noted c.in-None.is
    (subst (λ ops. IsFound (OfNote c.args.table.now ops) ops c.args.least c.in_ok-noted.noted) c.as_slice.ensures c.in_ok-noted.ensures)

pub check_cuts-requires-in-Some : goal.check_cuts-requires-in-Some
check_cuts-requires-in-Some c =
    subst (All (λ cut. IsWithin cut.whole)) (sym c.as_slice-in-Some-2.ensures)
    (of_results (λ cut. IsWithin cut.whole) c.args.f.now c.in-Some.carry c.in-Some.is c.requires.cuts)

pub returns-in_ok-found-in-Some : goal.returns-in_ok-found-in-Some
returns-in_ok-found-in-Some c =
    let f = c.args.f.now in
    let grids = c.args.table.now in
    let carry = c.in-Some.carry in
    let noted = subst (λ ops. IsFound (OfNote grids ops) ops c.args.least c.in_ok-noted.noted) c.as_slice.ensures c.in_ok-noted.ensures in
    let between = subst (λ cuts. IsFound (OfCut grids f.place) cuts c.in_ok-noted.noted c.in_ok-found-in-Some.found) c.as_slice-in-Some.ensures c.in_ok-found-in-Some.ensures in
    IfOk-weaker c.check_cuts-in-Some.result (λ found. IsFound (OfCut grids f.place) c.as_slice-in-Some-2.result.now c.in_ok-found-in-Some.found found)
    (IsFoundIn grids f c.args.least)
    (λ found is. with_cuts grids f carry c.args.least c.in_ok-noted.noted c.in_ok-found-in-Some.found found c.in-Some.is noted between
    (subst (λ cuts. IsFound (OfCut grids f.place) cuts c.in_ok-found-in-Some.found found) c.as_slice-in-Some-2.ensures is))
    c.check_cuts-in-Some.ensures
