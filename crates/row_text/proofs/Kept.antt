-- What a reading says of what was read.
use Rattle.std.proofs.Common.{◌≡◌, Bool, true, false, Option, Some, None, refl, if◌then◌else◌}
use Rattle.std.specs.Prelude.{is_some}
use Rattle.row_text.specs.declared.readings.Reading.TheVariants.{Unspelled, TooBig, Value}
use Rattle.row_text.specs.Readings.{is_spelled, reading}

value_by : {A : Type 0} (x y : A) (small : Bool) → Value x ≡ (if small then Value y else TooBig) → (y ≡ x) × (small ≡ true)
value_by x y true e = (cc, refl)
value_by x y false e = absurd cc

-- a value was read, and is small
pub value-read : {A : Type 0} (small : A → Bool) (o : Option A) (x : A) → Value x ≡ reading small o → (o ≡ Some x) × (small x ≡ true)
value-read small None x e = absurd cc
value-read small (Some y) x e =
    let t = value_by x y (small y) e in
    let is : y ≡ x = t.0 in
    let kept : small y ≡ true = t.1 in
    (cc, rw is at kept)

big_by : {A : Type 0} (y : A) (small : Bool) → TooBig ≡ (if small then Value y else TooBig) → small ≡ false
big_by y true e = absurd cc
big_by y false e = refl

-- a value was read that isn't small
pub big-read : {A : Type 0} (small : A → Bool) (o : Option A) → TooBig ≡ reading small o → (x : A) × (o ≡ Some x) × (small x ≡ false)
big-read small None e = absurd cc
big-read small (Some y) e = (y, refl, big_by y (small y) e)

unspelled_by : {A : Type 0} (y : A) (small : Bool) → Unspelled ≡ (if small then Value y else TooBig) → Some y ≡ None
unspelled_by y true e = absurd cc
unspelled_by y false e = absurd cc

-- nothing was read
pub unspelled-read : {A : Type 0} (small : A → Bool) (o : Option A) → Unspelled ≡ reading small o → o ≡ None
unspelled-read small None e = refl
unspelled-read small (Some y) e = unspelled_by y (small y) e

-- what is read at all, small or not
spelled_by : {A : Type 0} (x : A) (small : Bool) → is_spelled (if small then Value x else TooBig) ≡ true
spelled_by x true = refl
spelled_by x false = refl

pub spelled-reading : {A : Type 0} (small : A → Bool) (o : Option A) → is_spelled (reading small o) ≡ is_some o
spelled-reading small None = refl
spelled-reading small (Some x) = spelled_by x (small x)

pub some-read : {A : Type 0} (o : Option A) → is_some o ≡ true → (x : A) × (o ≡ Some x)
some-read None h = absurd cc
some-read (Some x) h = (x, refl)

pub none-read : {A : Type 0} (o : Option A) → is_some o ≡ false → o ≡ None
none-read None h = refl
none-read (Some x) h = absurd cc
