-- A header with the reading of one machine's clock is a header.
use Rattle.sl_cell.specs.declared.part.Part.TheVariants.{Delta, Resource}
use Rattle.sl_live.specs.declared.disks.Disk.{Disk}
use Rattle.sl_live_run.specs.Clocks.{as_first, with_readings}
use Rattle.sl_live_run.specs.Grounds.{IsSiteOf}
use Rattle.sl_outside.specs.Acts.{Grows, Tells}
use Rattle.sl_outside.specs.Disks.{Disks}
use Rattle.sl_outside.specs.Lendings.{Lending, SpawnerOut}
use Rattle.sl_outside.specs.declared.act.Act.{Act}
use Rattle.sl_own.specs.OwnGrounds.{AreLeft, Finds, FindsOn, IsOwnGround}
use Rattle.sl_own.specs.declared.ground.OwnGround.{OwnGround}
use Rattle.sl_run.specs.Headers.{IsArea, IsHeader}
use Rattle.sl_run.specs.declared.header.FirstReading.{FirstReading}
use Rattle.sl_run.specs.declared.header.Header.{Header}
use Rattle.sl_words.proofs.Lists.{contains_cases, contains_none}
use Rattle.sl_world_state.specs.FirstKept.{session_of}
use Rattle.sl_world_state.specs.declared.daemon.Site.{Site}
use Rattle.std.proofs.Common.{arith, inl, inr, refl, subst, sym, ◌∙◌}
use Rattle.std.proofs.lemmas.List.Kept.{AllPairs-cons}
use Rattle.std.specs.Prelude.{AllPairs, Contains, List, Option, length, [], ℕ, ◌+◌, ◌<◌, ◌^◌, ◌∷◌, ◌≡◌, ◌≢◌, ◌≤◌, ◌⊎◌}

-- The machine is one of the header's, and its reading below 10^12.
abbrev IsOne : Header → FirstReading → Type 0
IsOne h r = (1 ≤ r.machine) × (r.machine ≤ h.machines) × (r.reading < 10 ^ 12)

only_one : (h : Header) (x r : FirstReading) → IsOne h x → (x ≡ r) ⊎ Contains [] r → IsOne h r
only_one h x r one (inl same) = subst (IsOne h) same one
only_one h x r one (inr has) = absurd (contains_none r has)

no_pair : AllPairs (λ (a b : FirstReading). a.machine ≢ b.machine) []
no_pair = λ i j d before inside. absurd (omega (arith, inside))

area_with : (rs : List FirstReading) (h : Header) (path : List ℕ) (offset : ℕ) → IsArea h path offset → IsArea (with_readings rs h) path offset
area_with rs h path offset a = record { aligned = a.aligned; on_disk = a.on_disk }

header_with : (h : Header) (x : FirstReading) → IsHeader h → IsOne h x → IsHeader (with_readings (x ∷ []) h)
header_with h x is one = record {
  timing = is.timing;
  grace = is.grace;
  machines = is.machines;
  geometry = is.geometry;
  retries = is.retries;
  clocks = λ r has. only_one h x r one (contains_cases x [] r has);
  one_clock = AllPairs-cons (λ (a b : FirstReading). a.machine ≢ b.machine) x [] (λ k d inside. absurd (omega (arith, inside))) no_pair;
  disks = is.disks;
  one_disk = is.one_disk;
  lockspaces = λ l has. let of = is.lockspaces l has in (of.0, area_with (x ∷ []) h l.path l.offset of.1);
  one_lockspace = is.one_lockspace;
  resources = λ r has. let of = is.resources r has in (of.0, area_with (x ∷ []) h r.path r.offset of.1, of.2);
  apart = is.apart;
  few = is.few;
  members = λ s has. let of = is.members s has in record { machine = of.machine; id = of.id; lockspace = of.lockspace; name = of.name };
  together = is.together;
}

pub own_header : (h n : Header) (m r last : ℕ) → IsHeader h → (1 ≤ m) × (m ≤ h.machines) → r ≡ as_first last → n ≡ with_readings (record { machine = m; reading = r } ∷ []) h → IsHeader n
own_header h n m r last is of read same =
    let below : as_first last < 10 ^ 12 = omega arith in
    let small : r < 10 ^ 12 = subst (λ (k : ℕ). k < 10 ^ 12) (sym read) below in
    subst IsHeader (sym same) (header_with h (record { machine = m; reading = r }) is (of.0, of.1, small))

pub own_same : (h n : Header) (rs : List FirstReading) → n ≡ with_readings rs h → n ≡ record h { clocks = n.clocks }
own_same h n rs same = subst (λ (x : Header). x ≡ record h { clocks = x.clocks }) (sym same) refl

-- What was made of all this is a ground.
pub own_ground : {V O C P D W G A : Type 0} (content : A → Option (List ℕ)) (spawned : P → Option (List Act)) (disks : Disks) (folder : List ℕ) (h : Header) (machine : ℕ) (g : OwnGround V O C P D W G A)
    (n : Header) (site : Site) (delta resource : List (Disk A)) (lent first_lent both_lent started held : Option (List Lending)) → IsHeader h → machine ≤ h.machines → g.header ≡ n → IsHeader n → n ≡ record h { clocks = n.clocks } → machine ≡ g.place + 1
    → g.ready.site ≡ site → IsSiteOf n machine (session_of n machine) site → Tells (spawned g.ready.parts.spawner) [] → g.ready.parts.delta.items ≡ delta
    → AreLeft content (FindsOn disks folder h Delta) folder machine Delta h.disks delta lent first_lent → g.ready.parts.resource.items ≡ resource
    → AreLeft content (Finds h Resource) folder machine Resource h.disks resource first_lent both_lent → started ≡ both_lent → Grows started held (SpawnerOut machine ∷ [])
    → IsOwnGround content spawned disks folder h machine lent held g
own_ground content spawned disks folder h machine g n site delta resource lent first_lent both_lent started held is few as_read lawful same numbered at begun unasked first found other plain start spawner =
    let most = is.machines.1 in
    record {
      lawful = subst IsHeader (sym as_read) lawful;
      same = subst (λ (x : Header). x ≡ record h { clocks = x.clocks }) (sym as_read) same;
      numbered = numbered;
      small = omega (arith, most, few);
      site = subst (λ (x : Header). IsSiteOf x machine (session_of x machine) g.ready.site) (sym as_read) (subst (λ (s : Site). IsSiteOf n machine (session_of n machine) s) (sym at) begun);
      unasked = unasked;
      had = record {
        delta_lent = first_lent;
        delta = subst (λ ds. AreLeft content (FindsOn disks folder h Delta) folder machine Delta h.disks ds lent first_lent) (sym first) found;
        resource_lent = both_lent;
        resource = subst (λ ds. AreLeft content (Finds h Resource) folder machine Resource h.disks ds first_lent both_lent) (sym other) plain;
        spawner = subst (λ x. Grows x held (SpawnerOut machine ∷ [])) start spawner;
      };
    }
