-- How a seat stands.
use Rattle.std.proofs.Common.{◌≡◌, ℕ, List, [], refl}
use Rattle.hrt_base.specs.declared.host.Begun.TheVariants.{Idle, Reading, Writing}
use Rattle.hrt_host.specs.Seat.{begun_of, rest_of, left_at, writer_at}
use Rattle.hrt_host.specs.declared.file.File.{File}
use Rattle.hrt_host.specs.declared.seat.Stand.{Stand}
use Rattle.hrt_host.specs.declared.seat.Stand.TheVariants.{Idle as at_rest, Reading as reads, Writing as writes}

-- a seat that is idle, and one that is written
pub idle_left : (t : Stand) (room : ℕ) → begun_of t ≡ Idle → left_at t room ≡ 0
idle_left at_rest room e = refl
idle_left (reads file taken) room e = absurd (cc e)
idle_left writes room e = absurd (cc e)

pub idle_rest : (files : List File) (t : Stand) → begun_of t ≡ Idle → rest_of files t ≡ []
idle_rest files at_rest e = refl
idle_rest files (reads file taken) e = absurd (cc e)
idle_rest files writes e = absurd (cc e)

pub idle_writer : (t : Stand) (name : List ℕ) → begun_of t ≡ Idle → writer_at t name ≡ 0
idle_writer at_rest name e = refl
idle_writer (reads file taken) name e = absurd (cc e)
idle_writer writes name e = absurd (cc e)

pub reading_left : (t : Stand) (room : ℕ) → begun_of t ≡ Reading → left_at t room ≡ 0
reading_left at_rest room e = absurd (cc e)
reading_left (reads file taken) room e = refl
reading_left writes room e = absurd (cc e)

pub reading_writer : (t : Stand) (name : List ℕ) → begun_of t ≡ Reading → writer_at t name ≡ 0
reading_writer at_rest name e = absurd (cc e)
reading_writer (reads file taken) name e = refl
reading_writer writes name e = absurd (cc e)

pub written : (t : Stand) → begun_of t ≡ Writing → t ≡ writes
written at_rest e = absurd (cc e)
written (reads file taken) e = absurd (cc e)
written writes e = refl
