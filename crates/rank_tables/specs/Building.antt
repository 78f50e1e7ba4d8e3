-- Words for the private functions that build the tables. No public clause cites them.
use Rattle.std.specs.Prelude.{ℕ, ◌-◌, length, List, [], map, filter, flat_map, fold, unwrap_or, option_map, slice_get, slice_index, slice_index_or, nat_lt, ◌==◌, if◌then◌else◌}
use Rattle.std.specs.List.{concat}
use Rattle.std.specs.declared.vec.Vec.{Vec}
use Rattle.rank_tables.specs.declared.draft.DraftResident.{DraftResident}
use Rattle.rank_tables.specs.declared.draft.DraftHospital.{DraftHospital}
use Rattle.rank_tables.specs.declared.entry.PairEntry.{PairEntry}
use Rattle.rank_tables.specs.declared.marks.Mark.{Mark}
use Rattle.rank_tables.specs.Numbers.{below, numbers_to}
use Rattle.rank_tables.specs.Instance.{Lists, rank_in}

-- a value, and the number under which it is kept
abbrev pub mark_of : ℕ → ℕ → Mark
mark_of number value = record { number = number; value = value }

-- the rank of a number in groups, 0 where it isn't there
abbrev pub rank_or_0 : List (List ℕ) → ℕ → ℕ
rank_or_0 groups x = unwrap_or (rank_in groups x) 0

-- the numbers of all groups, each with its rank
abbrev pub with_ranks : List (List ℕ) → List Mark
with_ranks groups = map (λ x. mark_of x (rank_or_0 groups x)) (concat groups)

-- what stands at place i after each mark was written in turn
abbrev pub marked : ℕ → List Mark → ℕ → ℕ
marked i marks value = fold (λ v (m : Mark). if m.number == i then m.value else v) value marks

-- what stands at place i after 0 was written at the number of each mark
abbrev pub cleared : ℕ → List Mark → ℕ → ℕ
cleared i marks value = fold (λ v (m : Mark). if m.number == i then 0 else v) value marks

-- rows as lists
abbrev pub rows_of : {T A : Type 0} → List (Vec T A) → List (List T)
rows_of rows = map (λ row. row.items) rows

-- the row at a place, empty past the end
abbrev pub row_at : {T A : Type 0} → List (Vec T A) → ℕ → List T
row_at rows r = slice_index_or (rows_of rows) r []

-- a resident's list as it is written, empty where there is no such resident
abbrev pub resident_groups : List DraftResident → ℕ → List (List ℕ)
resident_groups residents r = unwrap_or (option_map (λ resident. resident.groups) (slice_get residents r)) []

-- a hospital's list as it is written, empty where there is no such hospital
abbrev pub hospital_groups : List DraftHospital → ℕ → List (List ℕ)
hospital_groups hospitals h = unwrap_or (option_map (λ hospital. hospital.groups) (slice_get hospitals h)) []

-- hospital h with the rank that it gives resident r, if r stands in its list
abbrev pub naming : ℕ → ℕ → List Mark → List Mark
naming h r list = map (λ (m : Mark). mark_of h m.value) (filter (λ (m : Mark). m.number == r) list)

-- those of the first n hospitals that name resident r, each with the rank that it gives it
abbrev pub namings_of : List DraftHospital → ℕ → ℕ → List Mark
namings_of hospitals n r = flat_map (λ h. naming h r (with_ranks (hospital_groups hospitals h))) (below n)

-- the pairs of a resident with those of a list that rank it
abbrev pub found : ℕ → List Mark → List ℕ → List PairEntry
found r list ranks =
    map (λ (m : Mark). record { resident = r; hospital = m.number; resident_rank = m.value; hospital_rank = slice_index ranks m.number })
    (filter (λ (m : Mark). nat_lt 0 (slice_index ranks m.number)) list)

-- the pairs of a resident by its list and by its namings
abbrev pub answered : ℕ → List (List ℕ) → List Mark → List PairEntry
answered r groups namings =
    map (λ h. record { resident = r; hospital = h; resident_rank = rank_or_0 groups h; hospital_rank = marked h namings 0 })
    (filter (λ h. nat_lt 0 (marked h namings 0)) (concat groups))

-- the numbers, from 1 on, of the places where a value stands
abbrev pub numbers_with : List ℕ → ℕ → List ℕ
numbers_with values value = filter (λ p. slice_index values (p - 1) == value) (numbers_to (length values))

-- the same numbers, each under the key that stands at its place
abbrev pub marks_with : List ℕ → List ℕ → ℕ → List Mark
marks_with keys values value = map (λ p. mark_of (slice_index keys (p - 1)) p) (numbers_with values value)

-- the numbers that marks give to the numbers of a list, in its order
abbrev pub numbered : List (List ℕ) → List Mark → List ℕ
numbered groups marks = filter (nat_lt 0) (map (λ r. marked r marks 0) (concat groups))

-- the lists of both sides
abbrev pub both : List DraftResident → List DraftHospital → Lists
both residents hospitals = record { residents = residents; hospitals = hospitals }
