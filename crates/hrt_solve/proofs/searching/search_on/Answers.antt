use Rattle.std.proofs.Common.{◌≡◌, ◌≤◌, arith, length, refl}
use Rattle.hrt_solve.proofs.SearchEnds.{can_search, claims_found, found_within, parts_are, solve_ends, solve_proved}
use Rattle.hrt_solve.proofs.searching.search_on.Goals as goal

pub search-requires-clause-can : goal.search-requires-clause-can
search-requires-clause-can g c = can_search c.args.model.now c.args.started c.args.deriv.now c.in-Some.bound c.requires.started c.in-Some.is c.deref.result.now c.deref.ensures.value c.requires.shorter

pub overflow_cast-found_size : goal.overflow_cast-found_size
overflow_cast-found_size g c =
    let top = c.args.started.gauged.end.ceiling in
    let pairs = c.parts-pairs.result.0.items in
    let is = parts_are c.args.budget top c.search.new.deriv c.in_ok-found.found pairs c.parts-pairs.result.1 c.parts-pairs.ensures c.in_ok-found.ensures.found in
    let most : length pairs ≤ top = found_within c.args.budget c.args.model.now c.args.started c.args.deriv.now c.search.new.deriv c.in-Some.bound c.requires.started c.in-Some.is c.in_ok-found.ensures.searches pairs is.0 in
    omega (arith, most, c.requires.started.small, c.len-found_size.ensures, c.parts-pairs.result.0.ok.0)

pub conclude-requires : goal.conclude-requires
conclude-requires g c =
    let top = c.args.started.gauged.end.ceiling in
    let pairs = c.parts-pairs.result.0.items in
    let size : c.len-found_size.result ≡ length pairs = omega (arith, c.len-found_size.ensures, c.parts-pairs.result.0.ok.0) in
    let is = parts_are c.args.budget top c.search.new.deriv c.in_ok-found.found pairs c.parts-pairs.result.1 c.parts-pairs.ensures c.in_ok-found.ensures.found in
    claims_found c.args.budget c.args.model.now c.args.started c.args.deriv.now c.search.new.deriv c.in-Some.bound c.requires.started c.in-Some.is c.in_ok-found.ensures.searches pairs is.0 c.parts-pairs.result.1 c.len-found_size.result c.solve_claim.result size c.solve_claim.ensures is.1

pub returns-clause-said : goal.returns-clause-said
returns-clause-said g c =
    let top = c.args.started.gauged.end.ceiling in
    let pairs = c.parts-pairs.result.0.items in
    let size : c.len-found_size.result ≡ length pairs = omega (arith, c.len-found_size.ensures, c.parts-pairs.result.0.ok.0) in
    let is = parts_are c.args.budget top c.search.new.deriv c.in_ok-found.found pairs c.parts-pairs.result.1 c.parts-pairs.ensures c.in_ok-found.ensures.found in
    solve_ends c.args.budget c.args.model.now c.args.started c.args.deriv.now c.search.new.deriv c.in-Some.bound c.requires.started c.in-Some.is c.in_ok-found.ensures.searches pairs is.0 c.parts-pairs.result.1 c.solve_claim.result c.conclude.new.deriv is.1 c.in_ok-conclude.ensures
    _ c.len-found_size.result c.requires.shorter c.solve_claim.ensures size refl refl refl refl refl

pub returns-clause-proof : goal.returns-clause-proof
returns-clause-proof g c =
    let top = c.args.started.gauged.end.ceiling in
    let pairs = c.parts-pairs.result.0.items in
    let size : c.len-found_size.result ≡ length pairs = omega (arith, c.len-found_size.ensures, c.parts-pairs.result.0.ok.0) in
    let is = parts_are c.args.budget top c.search.new.deriv c.in_ok-found.found pairs c.parts-pairs.result.1 c.parts-pairs.ensures c.in_ok-found.ensures.found in
    solve_proved c.args.budget c.args.model.now c.args.started c.args.deriv.now c.search.new.deriv c.in-Some.bound c.requires.started c.in-Some.is c.in_ok-found.ensures.searches pairs is.0 c.parts-pairs.result.1 c.solve_claim.result c.conclude.new.deriv is.1 c.in_ok-conclude.ensures
    c.len-found_size.result c.learned-conflicts.result c.solve_claim.ensures size c.learned-conflicts.ensures
