-- The header with the clocks' readings is a header, and has them as its first readings.
use Rattle.sl_live_run.specs.Clocks.{AreTicks, as_first, readings_from, with_readings}
use Rattle.sl_words.proofs.Lists.{contains_cases, contains_none}
use Rattle.sl_words.proofs.Numbers.{number_itself, one_further, plus_zero, refl_le}
use Rattle.sl_run.specs.Headers.{IsArea, IsHeader}
use Rattle.sl_run.specs.declared.header.FirstReading.{FirstReading}
use Rattle.sl_run.specs.declared.header.Header.{Header}
use Rattle.std.proofs.Common.{ap, arith, inl, inr, refl, subst, sym, ◌∙◌}
use Rattle.std.proofs.lemmas.Bool.Decides.{nat_tests}
use Rattle.std.proofs.lemmas.List.Elements.{Contains-get_or}
use Rattle.std.proofs.lemmas.List.Kept.{AllPairs-cons}
use Rattle.std.specs.Option.{option_map_or}
use Rattle.std.specs.Prelude.{AllPairs, Bool, Contains, List, Option, Some, false, find, if◌then◌else◌, length, suc, true, [], ℕ, ◌++◌, ◌+◌, ◌<◌, ◌==◌, ◌^◌, ◌∷◌, ◌≡◌, ◌≢◌, ◌≤◌, ◌⊎◌}

-- ---- readings

-- What the clock of machine m read.
abbrev reading_of : {C : Type 0} → (C → ℕ) → ℕ → C → FirstReading
reading_of last m c = record { machine = m; reading = as_first (last c) }

-- One clock more is that of the next machine.
pub readings_more : {C : Type 0} (last : C → ℕ) (m : ℕ) (cs : List C) (c : C) (n : ℕ) → n ≡ m + length cs
    → readings_from last m (cs ++ c ∷ []) ≡ readings_from last m cs ++ record { machine = n; reading = as_first (last c) } ∷ []
readings_more last m [] c n is = ap (λ (k : ℕ). reading_of last k c ∷ []) (plus_zero m ∙ sym is)
readings_more last m (x ∷ xs) c n is = ap (λ rs. reading_of last m x ∷ rs) (readings_more last (m + 1) xs c n (is ∙ sym (one_further m (length xs))))

-- .. as it is pushed behind those so far.
pub readings_pushed : {C : Type 0} (last : C → ℕ) (m : ℕ) (cs cs' : List C) (c : C) (rs rs' : List FirstReading) (machine reading : ℕ) → rs ≡ readings_from last m cs
    → rs' ≡ rs ++ record { machine = machine; reading = reading } ∷ [] → cs' ≡ cs ++ c ∷ [] → machine ≡ m + length cs → reading ≡ as_first (last c)
    → rs' ≡ readings_from last m cs'
readings_pushed last m cs cs' c rs rs' machine reading are pushed behind here read =
    pushed ∙ ap (λ xs. xs ++ record { machine = machine; reading = reading } ∷ []) are
    ∙ ap (λ (n : ℕ). readings_from last m cs ++ record { machine = machine; reading = n } ∷ []) read
    ∙ sym (readings_more last m cs c machine here) ∙ ap (readings_from last m) (sym behind)

-- Each is of one of the machines, and below 10^12.
record IsWithin (m n : ℕ) (r : FirstReading) : Type 0 where
  pub low : m ≤ r.machine
  pub high : r.machine < n
  pub below : r.reading < 10 ^ 12

first_below : (n : ℕ) → as_first n < 10 ^ 12
first_below n = omega arith

within_more : (m n : ℕ) (r x : FirstReading) → (x ≡ r) ⊎ IsWithin (m + 1) (m + 1 + n) r → x.machine ≡ m → x.reading < 10 ^ 12 → IsWithin m (m + suc n) r
within_more m n r x (inl same) at below =
    subst (IsWithin m (m + suc n)) same (record { low = omega (arith, at); high = omega (arith, at); below = below })
within_more m n r x (inr later) at below =
    let low = later.low in let high = later.high in
    record { low = omega (arith, low); high = omega (arith, high); below = later.below }

either_within : {C : Type 0} (last : C → ℕ) (m : ℕ) (cs : List C) (x r : FirstReading) → (Contains (readings_from last m cs) r → IsWithin m (m + length cs) r)
    → (x ≡ r) ⊎ Contains (readings_from last m cs) r → (x ≡ r) ⊎ IsWithin m (m + length cs) r
either_within last m cs x r more (inl same) = inl same
either_within last m cs x r more (inr has) = inr (more has)

within : {C : Type 0} (last : C → ℕ) (m : ℕ) (cs : List C) (r : FirstReading) → Contains (readings_from last m cs) r → IsWithin m (m + length cs) r
within last m [] r has = absurd (contains_none r has)
within last m (c ∷ cs) r has =
    within_more m (length cs) r (reading_of last m c)
    (either_within last (m + 1) cs (reading_of last m c) r (within last (m + 1) cs r) (contains_cases (reading_of last m c) (readings_from last (m + 1) cs) r has))
    refl (first_below (last c))

-- No two are of one machine.
other_machine : (m k n : ℕ) → m + 1 ≤ k → m ≢ k
other_machine m k n le = λ same. absurd (omega (arith, same, le))

one_each : {C : Type 0} (last : C → ℕ) (m : ℕ) (cs : List C) → AllPairs (λ a b. a.machine ≢ b.machine) (readings_from last m cs)
one_each last m [] = λ i j d before inside. absurd (omega (arith, inside))
one_each last m (c ∷ cs) =
    AllPairs-cons (λ (a b : FirstReading). a.machine ≢ b.machine) (reading_of last m c) (readings_from last (m + 1) cs)
    (λ k d inside.
    let w = within last (m + 1) cs _ (Contains-get_or (readings_from last (m + 1) cs) k d inside) in
    other_machine m _ 0 w.low)
    (one_each last (m + 1) cs)

-- ---- the header

area_with : (rs : List FirstReading) (h : Header) (path : List ℕ) (offset : ℕ) → IsArea h path offset → IsArea (with_readings rs h) path offset
area_with rs h path offset a = record { aligned = a.aligned; on_disk = a.on_disk }

-- With a reading of each machine's clock a header stays one.
pub header_with : {C : Type 0} (last : C → ℕ) (cs : List C) (h : Header) → IsHeader h → length cs ≡ h.machines → IsHeader (with_readings (readings_from last 1 cs) h)
header_with last cs h is count =
    let rs = readings_from last 1 cs in
    record {
      timing = is.timing;
      grace = is.grace;
      machines = is.machines;
      geometry = is.geometry;
      retries = is.retries;
      clocks = λ r has. let w = within last 1 cs r has in (w.low, omega (arith, w.high, count), w.below);
      one_clock = one_each last 1 cs;
      disks = is.disks;
      one_disk = is.one_disk;
      lockspaces = λ l has. let of = is.lockspaces l has in (of.0, area_with rs h l.path l.offset of.1);
      one_lockspace = is.one_lockspace;
      resources = λ r has. let of = is.resources r has in (of.0, area_with rs h r.path r.offset of.1, of.2);
      apart = is.apart;
      few = is.few;
      members = λ s has. let of = is.members s has in record { machine = of.machine; id = of.id; lockspace = of.lockspace; name = of.name };
      together = is.together;
    }

-- ---- the first readings

-- The reading of a machine among these.
abbrev found : ℕ → List FirstReading → Option FirstReading
found k rs = find (λ r. r.machine == k) rs

first_found : (b : Bool) (r : FirstReading) (o : Option FirstReading) → b ≡ true → (if b then Some r else o) ≡ Some r
first_found true r o h = refl
first_found false r o h = absurd cc

not_found : (b : Bool) (r : FirstReading) (o : Option FirstReading) → b ≡ false → (if b then Some r else o) ≡ o
not_found true r o h = absurd cc
not_found false r o h = refl

is_other : (m k : ℕ) → m + 1 ≤ k → (m == k) ≡ false
is_other m k le = grind (arith, nat_tests)

-- A header that has these readings from machine m on has each of them.
ticks_from : {C : Type 0} (last : C → ℕ) (h : Header) (m : ℕ) (cs : List C) → ((k : ℕ) → m ≤ k → found k h.clocks ≡ found k (readings_from last m cs)) → AreTicks last h m cs
ticks_from last h m [] same = tt
ticks_from last h m (c ∷ cs) same =
    let here : found m h.clocks ≡ Some (reading_of last m c) =
    same m (refl_le m) ∙ first_found (m == m) (reading_of last m c) (found m (readings_from last (m + 1) cs)) (number_itself m) in (
      ap (λ o. option_map_or (λ (r : FirstReading). r.reading) o 0) here,
      ticks_from last h (m + 1) cs (λ k le.
          same k (omega (arith, le)) ∙ not_found (m == k) (reading_of last m c) (found k (readings_from last (m + 1) cs)) (is_other m k le)),
    )

pub ticks_with : {C : Type 0} (last : C → ℕ) (cs : List C) (h : Header) → AreTicks last (with_readings (readings_from last 1 cs) h) 1 cs
ticks_with last cs h = ticks_from last (with_readings (readings_from last 1 cs) h) 1 cs (λ k le. refl)
