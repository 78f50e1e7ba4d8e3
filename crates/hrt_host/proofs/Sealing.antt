-- A seat whose writing is ended.
use Rattle.std.proofs.Common.{◌≡◌, ◌≢◌, inl, inr, ℕ, ◌+◌, ◌<◌, ◌≤◌, true, List, [], ◌∷◌, ◌++◌, length, length-append, get_or, set, refl, sym, ◌∙◌, ap, ap₂, arith, None}
use Rattle.std.proofs.lemmas.Bool.{cases_eq}
use Rattle.hrt_base.specs.declared.port.Port.{Port}
use Rattle.hrt_base.specs.declared.host.Begun.TheVariants.{Idle, Writing}
use Rattle.hrt_base.specs.World.{port_no, put, store, sealed}
use Rattle.hrt_base.specs.Calls.{Sealed}
use Rattle.hrt_base.proofs.Pieces.{put_back}
use Rattle.hrt_host.specs.Seat.{bytes_at, name_at, file_of, begun_of, rest_of, kept, sent_by, name_by, named_below, reads_below, writes_here, all_below, writers, writer_of, writer_at, Finished}
use Rattle.hrt_host.specs.Memory.{memory_content, memory_begun, world_of}
use Rattle.hrt_host.specs.declared.file.File.{File}
use Rattle.hrt_host.specs.declared.seat.Stand.{Stand}
use Rattle.hrt_host.specs.declared.seat.Stand.TheVariants.{Writing as writes}
use Rattle.hrt_host.specs.declared.seat.Seat.{Seat}
use Rattle.hrt_host.proofs.Standing.{written}
use Rattle.hrt_host.proofs.Held.{place_put, place_was, place_kept, same_sent, same_name}
use Rattle.hrt_host.proofs.Below.{is_below, whole_test, all_below_set, not_sealed, all_more}
use Rattle.hrt_host.proofs.Pushed.{bytes_at_end, name_at_end, more_names, more_sents, more_rests, file_stored, nameless_stored}
use Rattle.hrt_host.proofs.Slots.{writers_set, named_writer}

module _ (files after : List File) (seats : List Seat) (port : Port) (i : ℕ) (r x : Seat) (at : i ≡ port_no port) (inside : i < length seats)
    (all : all_below (length files) seats ≡ true) (was : memory_begun seats port ≡ Writing) (done : Finished (get_or seats i r) x files after) where
  abbrev q : Seat
  q = get_or seats i r

  here : q.sealed_at ≡ None
  here = not_sealed (length files) seats port i r at inside all was

  stood : q.stand ≡ writes
  stood = written q.stand (sym (place_was files seats port i r x at inside (λ t. begun_of t.stand) Idle) ∙ was)

  name_was : (memory_content files seats).name port ≡ q.file.name.items
  name_was = place_was files seats port i r x at inside (name_by files) [] ∙ ap (kept name_at files q.file.name.items) here

  sent_was : (memory_content files seats).sent port ≡ q.file.bytes.items
  sent_was = place_was files seats port i r x at inside (sent_by files) [] ∙ ap (kept bytes_at files q.file.bytes.items) here

  ended : memory_begun (set seats i x) ≡ put port Idle (memory_begun seats)
  ended = place_put files seats port i r x at inside (λ t. begun_of t.stand) Idle ∙ ap (λ (t : Stand). put port (begun_of t) (memory_begun seats)) done.stand

  -- the writing had no name
  nameless_content : length q.file.name.items ≡ 0 → memory_content files (set seats i x) ≡ sealed port (memory_content files seats)
  nameless_content none =
      let n = done.nameless none in
      let c = memory_content files seats in
      λ k. record {
        name = place_kept files seats port i r x at inside (name_by files) [] (same_name files seats port i r x at inside n.2 n.1) k;
        rest = place_kept files seats port i r x at inside (λ t. rest_of files t.stand) [] (ap (rest_of files) done.stand ∙ ap (rest_of files) (sym stood)) k;
        sent = place_kept files seats port i r x at inside (sent_by files) [] (same_sent files seats port i r x at inside n.2 n.1) k;
        file = sym (nameless_stored (c.name port) (c.sent port) c.file (ap (λ (l : List ℕ). length l) name_was ∙ none)) k;
      }

  -- the writing became a file
  named_content : length q.file.name.items ≢ 0 → memory_content (files ++ q.file ∷ []) (set seats i x) ≡ sealed port (memory_content files seats)
  named_content named =
      let f = q.file in
      let now = files ++ f ∷ [] in
      let c = memory_content files seats in
      let place = (done.filed named).1 in
      let name_here : name_by now x ≡ c.name port = ap (kept name_at now x.file.name.items) place ∙ name_at_end files f ∙ sym name_was in
      let sent_here : sent_by now x ≡ c.sent port = ap (kept bytes_at now x.file.bytes.items) place ∙ bytes_at_end files f ∙ sym sent_was in
      let rest_was : c.rest port ≡ [] = place_was files seats port i r x at inside (λ t. rest_of files t.stand) [] ∙ ap (rest_of files) stood in
      let rest_here : rest_of now x.stand ≡ c.rest port = ap (rest_of now) done.stand ∙ sym rest_was in
      λ k. record {
        name = (place_put now seats port i r x at inside (name_by now) [] ∙ ap₂ (put port) name_here (more_names files f seats all) ∙ put_back port c.name) k;
        rest = (place_put now seats port i r x at inside (λ t. rest_of now t.stand) [] ∙ ap₂ (put port) rest_here (more_rests files f seats all) ∙ put_back port c.rest) k;
        sent = (place_put now seats port i r x at inside (sent_by now) [] ∙ ap₂ (put port) sent_here (more_sents files f seats all) ∙ put_back port c.sent) k;
        file = (file_stored files f ∙ ap₂ (λ (a b : List ℕ). store a b (file_of files)) (sym name_was) (sym sent_was)) k;
      }

  sealed_content : memory_content after (set seats i x) ≡ sealed port (memory_content files seats)
  sealed_content = elim (cases_eq (length q.file.name.items) 0) [
    | inl none ↦ ap (λ (l : List File). memory_content l (set seats i x)) (done.nameless none).0 ∙ nameless_content none
    | inr named ↦ ap (λ (l : List File). memory_content l (set seats i x)) (done.filed named).0 ∙ named_content named
  ]

  pub write_sealed : (a b : ℕ) → Sealed (Unit {0}) port (world_of a b files seats) (world_of a b after (set seats i x))
  write_sealed a b = record { read_faults = refl; write_faults = refl; begun = ended; content = λ _. sealed_content }

  pub below_sealed : all_below (length after) (set seats i x) ≡ true
  below_sealed = elim (cases_eq (length q.file.name.items) 0) [
    | inl none ↦ ap (λ (l : List File). all_below (length l) (set seats i x)) (done.nameless none).0
        ∙ all_below_set (length files) seats i x all (whole_test (length files) x
        (ap (named_below (length files)) ((done.nameless none).1 ∙ here)) (ap (reads_below (length files)) done.stand) (ap (writes_here x.sealed_at) done.stand))
    | inr named ↦
        let size : length after ≡ length files + 1 = ap (λ (l : List File). length l) (done.filed named).0 ∙ length-append files (q.file ∷ []) in
        let there : named_below (length after) x.sealed_at ≡ true = ap (named_below (length after)) (done.filed named).1 ∙ is_below (length files) (length after) (omega arith) in
        all_below_set (length after) seats i x (all_more (length files) (length after) seats (omega arith) all)
        (whole_test (length after) x there (ap (reads_below (length after)) done.stand) (ap (writes_here x.sealed_at) done.stand))
  ]

  pub slots_sealed : (rooms most : ℕ) → length files + (rooms + writers seats) ≤ most → length after + (rooms + writers (set seats i x)) ≤ most
  slots_sealed rooms most fits =
      let now : writer_of x ≡ 0 = ap (λ (t : Stand). writer_at t x.file.name.items) done.stand in
      elim (cases_eq (length q.file.name.items) 0) [
        | inl none ↦ let same : length after ≡ length files = ap (λ (l : List File). length l) (done.nameless none).0 in omega (arith, writers_set seats i r x inside)
        | inr named ↦
            let size : length after ≡ length files + 1 = ap (λ (l : List File). length l) (done.filed named).0 ∙ length-append files (q.file ∷ []) in
            let one : writer_of q ≡ 1 = ap (λ (t : Stand). writer_at t q.file.name.items) stood ∙ named_writer q.file.name.items named in
            omega (arith, writers_set seats i r x inside)
      ]
