-- How many seats are written under a name.
use Rattle.std.proofs.Common.{◌≡◌, ◌≢◌, ℕ, zero, suc, ◌+◌, ◌<◌, ◌≤◌, List, [], ◌∷◌, length, get_or, set, sym, ◌∙◌, ap, ap₂, arith}
use Rattle.std.proofs.lemmas.Bool.Decides.{nat_tests}
use Rattle.hrt_base.specs.declared.port.Port.{Port}
use Rattle.hrt_base.specs.declared.host.Begun.TheVariants.{Idle, Reading, Writing}
use Rattle.hrt_base.specs.World.{port_no}
use Rattle.hrt_host.specs.Seat.{begun_of, writers, writer_of, writer_at, StandsAs}
use Rattle.hrt_host.specs.Memory.{memory_begun}
use Rattle.hrt_host.specs.declared.seat.Stand.{Stand}
use Rattle.hrt_host.specs.declared.seat.Stand.TheVariants.{Idle as at_rest, Reading as reads, Writing as writes}
use Rattle.hrt_host.specs.declared.seat.Seat.{Seat}
use Rattle.hrt_host.proofs.Standing.{idle_writer, reading_writer, written}
use Rattle.hrt_host.proofs.Held.{place_was}

-- how many seats are written under a name
pub writers_set : (seats : List Seat) (i : ℕ) (r x : Seat) → i < length seats → writers (set seats i x) + writer_of (get_or seats i r) ≡ writers seats + writer_of x
writers_set [] i r x inside = absurd (omega arith)
writers_set (t ∷ ts) zero r x inside = omega arith
writers_set (t ∷ ts) (suc i) r x inside = omega (arith, writers_set ts i r x (omega arith))

pub one_at_most : (t : Stand) (name : List ℕ) → writer_at t name ≤ 1
one_at_most at_rest name = omega arith
one_at_most (reads file taken) name = omega arith
one_at_most writes name = grind (arith, nat_tests)

pub writers_most : (seats : List Seat) → writers seats ≤ length seats
writers_most [] = omega arith
writers_most (t ∷ ts) = omega (arith, one_at_most t.stand t.file.name.items, writers_most ts)

-- a seat that is not written, and stays so
pub writers_reading : (seats : List Seat) (port : Port) (i : ℕ) (r x : Seat) → i ≡ port_no port → i < length seats → memory_begun seats port ≡ Reading → StandsAs (get_or seats i r) x → writers (set seats i x) ≡ writers seats
writers_reading seats port i r x at inside was same =
    let q = get_or seats i r in
    let before : begun_of q.stand ≡ Reading = sym (place_was [] seats port i r r at inside (λ (t : Seat). begun_of t.stand) Idle) ∙ was in
    omega (arith, writers_set seats i r x inside, reading_writer q.stand q.file.name.items before, reading_writer x.stand x.file.name.items (same.begun ∙ before))

pub writers_opened : (seats : List Seat) (port : Port) (i file : ℕ) (r x : Seat) → i ≡ port_no port → i < length seats → memory_begun seats port ≡ Idle → x.stand ≡ reads file 0 → writers (set seats i x) ≡ writers seats
writers_opened seats port i file r x at inside was stand =
    let q = get_or seats i r in
    let before : begun_of q.stand ≡ Idle = sym (place_was [] seats port i r r at inside (λ (t : Seat). begun_of t.stand) Idle) ∙ was in
    let now : writer_of x ≡ 0 = ap (λ (t : Stand). writer_at t x.file.name.items) stand in
    omega (arith, writers_set seats i r x inside, idle_writer q.stand q.file.name.items before)

-- at most one more is written
pub writers_started : (seats : List Seat) (i : ℕ) (r x : Seat) → i < length seats → writers (set seats i x) ≤ writers seats + 1
writers_started seats i r x inside = omega (arith, writers_set seats i r x inside, one_at_most x.stand x.file.name.items)

pub writers_same : (seats : List Seat) (i : ℕ) (r x : Seat) → i < length seats → x.stand ≡ (get_or seats i r).stand → x.file.name.items ≡ (get_or seats i r).file.name.items → writers (set seats i x) ≡ writers seats
writers_same seats i r x inside stand name = omega (arith, writers_set seats i r x inside, ap₂ writer_at stand name)

pub named_writer : (name : List ℕ) → length name ≢ 0 → writer_at writes name ≡ 1
named_writer name named = grind (arith, nat_tests)

-- a seat that is written under a name is one of them
pub writer_counted : (seats : List Seat) (port : Port) (i : ℕ) (r : Seat) → i ≡ port_no port → i < length seats → memory_begun seats port ≡ Writing → length (get_or seats i r).file.name.items ≢ 0 → 0 < writers seats
writer_counted seats port i r at inside was named =
    let q = get_or seats i r in
    let stand : q.stand ≡ writes = written q.stand (sym (place_was [] seats port i r r at inside (λ (t : Seat). begun_of t.stand) Idle) ∙ was) in
    let one : writer_of q ≡ 1 = ap (λ (t : Stand). writer_at t q.file.name.items) stand ∙ named_writer q.file.name.items named in
    let blank = record q { stand = at_rest } in
    omega (arith, writers_set seats i r blank inside)
