-- Seats name only files that are there, and are written at their own file.
use Rattle.std.proofs.Common.{◌≡◌, ℕ, zero, suc, ◌<◌, ◌≤◌, Bool, true, false, ◌&&◌, List, [], ◌∷◌, length, get_or, set, refl, sym, ◌∙◌, ap, ap₂, arith, Some, None, Option, bytes_eq, nat_lt}
use Rattle.std.proofs.lemmas.Bool.Decides.{nat_tests}
use Rattle.hrt_base.specs.declared.port.Port.{Port}
use Rattle.hrt_base.specs.declared.host.Begun.{Begun}
use Rattle.hrt_base.specs.declared.host.Begun.TheVariants.{Idle, Reading, Writing}
use Rattle.hrt_base.specs.World.{port_no}
use Rattle.hrt_host.specs.Seat.{name_at, begun_of, is_writing, kept, name_by, named_below, reads_below, writes_here, seat_below, all_below, StandsAs}
use Rattle.hrt_host.specs.Memory.{memory_content, memory_begun}
use Rattle.hrt_host.specs.declared.file.File.{File}
use Rattle.hrt_host.specs.declared.seat.Stand.{Stand}
use Rattle.hrt_host.specs.declared.seat.Stand.TheVariants.{Idle as at_rest, Reading as reads, Writing as writes}
use Rattle.hrt_host.specs.declared.seat.Seat.{Seat}
use Rattle.hrt_host.proofs.Standing.{written}
use Rattle.hrt_host.proofs.Held.{place_was}

pub is_below : (k n : ℕ) → k < n → nat_lt k n ≡ true
is_below k n e = grind (arith, nat_tests)

pub below_is : (k n : ℕ) → nat_lt k n ≡ true → k < n
below_is k n e = grind (arith, nat_tests)

pub and_left : (a b : Bool) → a && b ≡ true → a ≡ true
and_left true b e = refl
and_left false b e = absurd (cc e)

pub and_right : (a b : Bool) → a && b ≡ true → b ≡ true
and_right true b e = e
and_right false b e = absurd (cc e)

pub both : (a b : Bool) → a ≡ true → b ≡ true → a && b ≡ true
both true b e h = h
both false b e h = absurd (cc e)

-- the parts of the test on a seat
pub named_part : (n : ℕ) (q : Seat) → seat_below n q ≡ true → named_below n q.sealed_at ≡ true
named_part n q e = and_left (named_below n q.sealed_at) (reads_below n q.stand && writes_here q.sealed_at q.stand) e

pub reads_part : (n : ℕ) (q : Seat) → seat_below n q ≡ true → reads_below n q.stand ≡ true
reads_part n q e = and_left (reads_below n q.stand) (writes_here q.sealed_at q.stand) (and_right (named_below n q.sealed_at) (reads_below n q.stand && writes_here q.sealed_at q.stand) e)

pub writes_part : (n : ℕ) (q : Seat) → seat_below n q ≡ true → writes_here q.sealed_at q.stand ≡ true
writes_part n q e = and_right (reads_below n q.stand) (writes_here q.sealed_at q.stand) (and_right (named_below n q.sealed_at) (reads_below n q.stand && writes_here q.sealed_at q.stand) e)

pub whole_test : (n : ℕ) (q : Seat) → named_below n q.sealed_at ≡ true → reads_below n q.stand ≡ true → writes_here q.sealed_at q.stand ≡ true → seat_below n q ≡ true
whole_test n q named below here = both (named_below n q.sealed_at) (reads_below n q.stand && writes_here q.sealed_at q.stand) named (both (reads_below n q.stand) (writes_here q.sealed_at q.stand) below here)

pub nothing : (o : Option ℕ) (t : Stand) → writes_here o t ≡ true → t ≡ writes → o ≡ None
nothing None t e is = refl
nothing (Some k) at_rest e is = absurd (cc is)
nothing (Some k) (reads file taken) e is = absurd (cc is)
nothing (Some k) writes e is = absurd (cc e)

-- files below n
pub all_below_get : (n : ℕ) (seats : List Seat) (i : ℕ) (r : Seat) → all_below n seats ≡ true → i < length seats → seat_below n (get_or seats i r) ≡ true
all_below_get n [] i r all inside = absurd (omega arith)
all_below_get n (t ∷ ts) zero r all inside = and_left (seat_below n t) (all_below n ts) all
all_below_get n (t ∷ ts) (suc i) r all inside = all_below_get n ts i r (and_right (seat_below n t) (all_below n ts) all) (omega arith)

pub all_below_set : (n : ℕ) (seats : List Seat) (i : ℕ) (x : Seat) → all_below n seats ≡ true → seat_below n x ≡ true → all_below n (set seats i x) ≡ true
all_below_set n [] i x all below = refl
all_below_set n (t ∷ ts) zero x all below = both (seat_below n x) (all_below n ts) below (and_right (seat_below n t) (all_below n ts) all)
all_below_set n (t ∷ ts) (suc i) x all below =
    both (seat_below n t) (all_below n (set ts i x)) (and_left (seat_below n t) (all_below n ts) all) (all_below_set n ts i x (and_right (seat_below n t) (all_below n ts) all) below)

-- a port that is written
pub stands_written : (seats : List Seat) (port : Port) (i : ℕ) (r : Seat) → i ≡ port_no port → i < length seats → memory_begun seats port ≡ Writing → (get_or seats i r).stand ≡ writes
stands_written seats port i r at inside was = written (get_or seats i r).stand (sym (place_was [] seats port i r r at inside (λ (t : Seat). begun_of t.stand) Idle) ∙ was)

-- a port that is written under a name
pub as_written : (files : List File) (t : Stand) (o : Option ℕ) (own name : List ℕ) → writes_here o t ≡ true → (is_writing (begun_of t) && bytes_eq own name) ≡ (is_writing (begun_of t) && bytes_eq (kept name_at files own o) name)
as_written files at_rest o own name e = refl
as_written files (reads file taken) o own name e = refl
as_written files writes None own name e = refl
as_written files writes (Some k) own name e = absurd (cc e)

pub written_as : (files : List File) (seats : List Seat) (port : Port) (i : ℕ) (r : Seat) (name : List ℕ) → i ≡ port_no port → i < length seats → all_below (length files) seats ≡ true
    → (is_writing (begun_of (get_or seats i r).stand) && bytes_eq (get_or seats i r).file.name.items name) ≡ (is_writing (memory_begun seats port) && bytes_eq ((memory_content files seats).name port) name)
written_as files seats port i r name at inside all =
    let q = get_or seats i r in
    as_written files q.stand q.sealed_at q.file.name.items name (writes_part (length files) q (all_below_get (length files) seats i r all inside))
    ∙ ap₂ (λ (b : Begun) (l : List ℕ). is_writing b && bytes_eq l name) (sym (place_was files seats port i r r at inside (λ (t : Seat). begun_of t.stand) Idle)) (sym (place_was files seats port i r r at inside (name_by files) []))

-- what is written has not been sealed
pub not_sealed : (n : ℕ) (seats : List Seat) (port : Port) (i : ℕ) (r : Seat) → i ≡ port_no port → i < length seats → all_below n seats ≡ true → memory_begun seats port ≡ Writing → (get_or seats i r).sealed_at ≡ None
not_sealed n seats port i r at inside all was =
    let q = get_or seats i r in
    let stand : q.stand ≡ writes = written q.stand (sym (place_was [] seats port i r r at inside (λ (t : Seat). begun_of t.stand) Idle) ∙ was) in
    nothing q.sealed_at q.stand (writes_part n q (all_below_get n seats i r all inside)) stand

-- a seat that reads on, at the file that it read
pub reading_here : (o : Option ℕ) (t : Stand) → begun_of t ≡ Reading → writes_here o t ≡ true
reading_here o at_rest e = refl
reading_here o (reads file taken) e = refl
reading_here o writes e = absurd (cc e)

pub below_reads : (n : ℕ) (seats : List Seat) (port : Port) (i : ℕ) (r x : Seat) → i ≡ port_no port → i < length seats → all_below n seats ≡ true → memory_begun seats port ≡ Reading → StandsAs (get_or seats i r) x → all_below n (set seats i x) ≡ true
below_reads n seats port i r x at inside all was same =
    let q = get_or seats i r in
    let e = all_below_get n seats i r all inside in
    let begun : begun_of x.stand ≡ Reading = same.begun ∙ sym (place_was [] seats port i r r at inside (λ (t : Seat). begun_of t.stand) Idle) ∙ was in
    all_below_set n seats i x all (whole_test n x (ap (named_below n) same.sealed_at ∙ named_part n q e) (same.below n ∙ reads_part n q e) (reading_here x.sealed_at x.stand begun))

-- a seat that begins to read a file that is there
pub below_opened : (n file : ℕ) (seats : List Seat) (i : ℕ) (r x : Seat) → all_below n seats ≡ true → i < length seats → x.stand ≡ reads file 0 → x.sealed_at ≡ (get_or seats i r).sealed_at → file < n → all_below n (set seats i x) ≡ true
below_opened n file seats i r x all inside stand last there =
    let q = get_or seats i r in
    let e = all_below_get n seats i r all inside in
    all_below_set n seats i x all (whole_test n x (ap (named_below n) last ∙ named_part n q e) (ap (reads_below n) stand ∙ is_below file n there) (ap (writes_here x.sealed_at) stand))

-- a seat that begins to write
pub below_started : (n : ℕ) (seats : List Seat) (i : ℕ) (x : Seat) → all_below n seats ≡ true → x.stand ≡ writes → x.sealed_at ≡ None → all_below n (set seats i x) ≡ true
below_started n seats i x all stand here =
    all_below_set n seats i x all (whole_test n x (ap (named_below n) here) (ap (reads_below n) stand) (ap₂ writes_here here stand))

-- a seat whose stand and place are as they were
pub below_same : (n : ℕ) (seats : List Seat) (i : ℕ) (r x : Seat) → all_below n seats ≡ true → i < length seats → x.stand ≡ (get_or seats i r).stand → x.sealed_at ≡ (get_or seats i r).sealed_at → all_below n (set seats i x) ≡ true
below_same n seats i r x all inside stand last =
    all_below_set n seats i x all (ap₂ (λ (t : Stand) (o : Option ℕ). named_below n o && (reads_below n t && writes_here o t)) stand last ∙ all_below_get n seats i r all inside)

pub named_more : (m n : ℕ) (o : Option ℕ) → m ≤ n → named_below m o ≡ true → named_below n o ≡ true
named_more m n None le e = refl
named_more m n (Some k) le e = is_below k n (omega (arith, below_is k m e))

pub reads_more : (m n : ℕ) (t : Stand) → m ≤ n → reads_below m t ≡ true → reads_below n t ≡ true
reads_more m n at_rest le e = refl
reads_more m n (reads k taken) le e = is_below k n (omega (arith, below_is k m e))
reads_more m n writes le e = refl

pub all_more : (m n : ℕ) (seats : List Seat) → m ≤ n → all_below m seats ≡ true → all_below n seats ≡ true
all_more m n [] le e = refl
all_more m n (q ∷ qs) le e =
    let here = and_left (seat_below m q) (all_below m qs) e in
    both (seat_below n q) (all_below n qs) (whole_test n q (named_more m n q.sealed_at le (named_part m q here)) (reads_more m n q.stand le (reads_part m q here)) (writes_part m q here))
    (all_more m n qs le (and_right (seat_below m q) (all_below m qs) e))

pub all_pushed : (files after : List File) (seats : List Seat) → all_below (length files) seats ≡ true → length files ≤ length after → all_below (length after) seats ≡ true
all_pushed files after seats all more = all_more (length files) (length after) seats more all
