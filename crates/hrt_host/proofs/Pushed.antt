-- One more file.
use Rattle.std.proofs.Common.{◌≡◌, ℕ, zero, suc, ◌<◌, true, false, List, [], ◌∷◌, ◌++◌, length, drop, refl, ◌∙◌, ap, arith, Some, None, Option, if◌then◌else◌, ◌==◌, bytes_eq}
use Rattle.hrt_base.specs.World.{port_no, store}
use Rattle.hrt_host.specs.Seat.{at_place, bytes_at, name_at, or_else, file_of, rest_of, kept, sent_by, name_by, named_below, reads_below, seat_below, all_below}
use Rattle.hrt_host.specs.Memory.{memory_content, with_file}
use Rattle.hrt_host.specs.declared.file.File.{File}
use Rattle.hrt_host.specs.declared.seat.Stand.{Stand}
use Rattle.hrt_host.specs.declared.seat.Stand.TheVariants.{Idle as at_rest, Reading as reads, Writing as writes}
use Rattle.hrt_host.specs.declared.seat.Seat.{Seat}
use Rattle.hrt_host.proofs.Places.{file_of_push}
use Rattle.hrt_host.proofs.Held.{seat_map}
use Rattle.hrt_host.proofs.Below.{below_is, and_left, and_right, named_part, reads_part}

-- a seat whose files are there sees the same when one more is pushed
pub bytes_at_more : (files : List File) (f : File) (k : ℕ) → k < length files → bytes_at (files ++ f ∷ []) k ≡ bytes_at files k
bytes_at_more [] f k inside = absurd (omega arith)
bytes_at_more (g ∷ gs) f zero inside = refl
bytes_at_more (g ∷ gs) f (suc k) inside = bytes_at_more gs f k (omega arith)

pub name_at_more : (files : List File) (f : File) (k : ℕ) → k < length files → name_at (files ++ f ∷ []) k ≡ name_at files k
name_at_more [] f k inside = absurd (omega arith)
name_at_more (g ∷ gs) f zero inside = refl
name_at_more (g ∷ gs) f (suc k) inside = name_at_more gs f k (omega arith)

pub bytes_at_end : (files : List File) (f : File) → bytes_at (files ++ f ∷ []) (length files) ≡ f.bytes.items
bytes_at_end [] f = refl
bytes_at_end (g ∷ gs) f = bytes_at_end gs f

pub name_at_end : (files : List File) (f : File) → name_at (files ++ f ∷ []) (length files) ≡ f.name.items
name_at_end [] f = refl
name_at_end (g ∷ gs) f = name_at_end gs f

pub rest_more : (files : List File) (f : File) (t : Stand) → reads_below (length files) t ≡ true → rest_of (files ++ f ∷ []) t ≡ rest_of files t
rest_more files f at_rest e = refl
rest_more files f (reads k taken) e = ap (λ (l : List ℕ). drop taken l) (bytes_at_more files f k (below_is k (length files) e))
rest_more files f writes e = refl

pub kept_bytes_more : (files : List File) (f : File) (here : List ℕ) (o : Option ℕ) → named_below (length files) o ≡ true → kept bytes_at (files ++ f ∷ []) here o ≡ kept bytes_at files here o
kept_bytes_more files f here None e = refl
kept_bytes_more files f here (Some k) e = bytes_at_more files f k (below_is k (length files) e)

pub kept_name_more : (files : List File) (f : File) (here : List ℕ) (o : Option ℕ) → named_below (length files) o ≡ true → kept name_at (files ++ f ∷ []) here o ≡ kept name_at files here o
kept_name_more files f here None e = refl
kept_name_more files f here (Some k) e = name_at_more files f k (below_is k (length files) e)

-- two functions that agree at each seat whose files are there
pub agree_at : {B : Type 0} (g h : Seat → B) (d : B) (n : ℕ) (seats : List Seat) → all_below n seats ≡ true → ((q : Seat) → seat_below n q ≡ true → g q ≡ h q) → (k : ℕ) → at_place g d seats k ≡ at_place h d seats k
agree_at g h d n [] all same k = refl
agree_at g h d n (t ∷ ts) all same zero = same t (and_left (seat_below n t) (all_below n ts) all)
agree_at g h d n (t ∷ ts) all same (suc k) = agree_at g h d n ts (and_right (seat_below n t) (all_below n ts) all) same k

pub agree : {B : Type 0} (g h : Seat → B) (d : B) (n : ℕ) (seats : List Seat) → all_below n seats ≡ true → ((q : Seat) → seat_below n q ≡ true → g q ≡ h q) → seat_map g d seats ≡ seat_map h d seats
agree g h d n seats all same k p = agree_at g h d n seats all same (port_no p) k

module _ (files : List File) (f : File) (seats : List Seat) (all : all_below (length files) seats ≡ true) where
  pub more_names : seat_map (name_by (files ++ f ∷ [])) [] seats ≡ seat_map (name_by files) [] seats
  more_names = agree (name_by (files ++ f ∷ [])) (name_by files) [] (length files) seats all (λ q e. kept_name_more files f q.file.name.items q.sealed_at (named_part (length files) q e))

  pub more_sents : seat_map (sent_by (files ++ f ∷ [])) [] seats ≡ seat_map (sent_by files) [] seats
  more_sents = agree (sent_by (files ++ f ∷ [])) (sent_by files) [] (length files) seats all (λ q e. kept_bytes_more files f q.file.bytes.items q.sealed_at (named_part (length files) q e))

  pub more_rests : seat_map (λ q. rest_of (files ++ f ∷ []) q.stand) [] seats ≡ seat_map (λ q. rest_of files q.stand) [] seats
  more_rests = agree (λ q. rest_of (files ++ f ∷ []) q.stand) (λ q. rest_of files q.stand) [] (length files) seats all (λ q e. rest_more files f q.stand (reads_part (length files) q e))

-- a newest file
pub stored : (name bytes n : List ℕ) (o : Option (List ℕ)) (file : List ℕ → Option (List ℕ)) → o ≡ file n
    → or_else (if length name == 0 then None else if bytes_eq n name then Some bytes else None) o ≡ store name bytes file n
stored name bytes n o file is = elim (length name == 0) as (λ b. or_else (if b then None else if bytes_eq n name then Some bytes else None) o ≡ (if b then file n else if bytes_eq n name then Some bytes else file n)) [
  | true ↦ is
  | false ↦ elim (bytes_eq n name) as (λ b. or_else (if b then Some bytes else None) o ≡ (if b then Some bytes else file n)) [ true ↦ refl | false ↦ is ]
]

pub file_stored : (files : List File) (f : File) → file_of (files ++ f ∷ []) ≡ store f.name.items f.bytes.items (file_of files)
file_stored files f k n = (file_of_push files f n ∙ stored f.name.items f.bytes.items n (file_of files n) (file_of files) refl) k

pub nameless_stored : (name bytes : List ℕ) (file : List ℕ → Option (List ℕ)) → length name ≡ 0 → store name bytes file ≡ file
nameless_stored name bytes file none k n = (ap (λ (m : ℕ). if m == 0 then file n else if bytes_eq n name then Some bytes else file n) none) k

-- a file is pushed, and no seat is moved
pub pushed_content : (files after : List File) (seats : List Seat) (f : File) → all_below (length files) seats ≡ true → after ≡ files ++ f ∷ []
    → memory_content after seats ≡ with_file f.name.items f.bytes.items (memory_content files seats)
pushed_content files after seats f all pushed = ap (λ (l : List File). memory_content l seats) pushed ∙ (λ k. record {
  name = more_names files f seats all k;
  rest = more_rests files f seats all k;
  sent = more_sents files f seats all k;
  file = file_stored files f k;
})
