-- What a session writes on its id's sector, of a request and of a value is a record.
use Rattle.sl_area.specs.AreaSizes.{IsGeometry, Sizes}
use Rattle.sl_due_facts.proofs.Jobs.JobsAreNumbered.{command_is_read}
use Rattle.sl_due_facts.proofs.Jobs.SessionsHaveJobs.{given_one, joined_by}
use Rattle.sl_run.specs.Lawful.{IsGiven, IsSetting}
use Rattle.sl_due_leases.proofs.Ways.WayFactsHeld.PlacesStand.{id_in_range}
use Rattle.sl_words.proofs.Lists.{contains_cases, contains_none}
use Rattle.sl_request.proofs.BitmapFacts.{listed_are_set, none_is_set}
use Rattle.sl_sector.specs.Bitmaps.{bitmap_of, no_bits}
use Rattle.sl_sector.specs.Records.{AreBytes, Fits, IsDelta, IsRequest}
use Rattle.sl_sector.specs.declared.sector.DeltaState.{DeltaState}
use Rattle.sl_trace.specs.DeltaDecisions.{delta_of_session, delta_record}
use Rattle.sl_trace.specs.Sessions.{sessions}
use Rattle.sl_trace.specs.declared.session.Session.{Session}
use Rattle.sl_text.specs.Names.{is_name}
use Rattle.sl_trace.specs.CommandForms.{IsLockspaceArg, IsRequestArg}
use Rattle.sl_trace.specs.Traces.{Setting, Trace}
use Rattle.sl_trace.specs.declared.command.Command.TheVariants.{AddLockspace}
use Rattle.sl_words.specs.Bounds.{is_number, moments, most_hosts}
use Rattle.std.proofs.Common.{ap, arith, inl, inr, refl, subst, sym, tests, ◌∙◌}
use Rattle.std.proofs.lemmas.Bool.Decides.{nat_tests}
use Rattle.std.specs.Int.{is_in_range}
use Rattle.std.specs.List.{AllByRecursion, list_all, range_with_len}
use Rattle.std.specs.Prelude.{Bool, Contains, IsTrue, List, None, Option, Some, [], false, filter, if◌then◌else◌, true, zero, suc, ℕ, ◌&&◌, ◌+◌, ◌<◌, ◌==◌, ◌∷◌, ◌≡◌, ◌≤◌, ◌⊎◌}

-- ---- the session

all_inside : {A : Type 0} (P : A → Type 0) (xs : List A) (d : A) → AllByRecursion P xs → Contains xs d → P d
all_inside P [] d all there = absurd (contains_none d there)
all_inside {A} P (x ∷ xs) d all there = by (contains_cases x xs d there) (λ old. all_inside P xs d all.1 old) where
  by : (x ≡ d) ⊎ Contains xs d → (Contains xs d → P d) → P d
  by (inl is) more = subst (λ z. P z) is all.0
  by (inr old) more = more old

-- A session's lockspace has a name.
pub session_named_well : (st : Setting) (es : Trace) (s : Session) → IsSetting st → Contains (sessions st es) s → IsTrue (is_name s.lockspace)
session_named_well st es s setting there = by s.job refl where
  by : (o : Option ℕ) → s.job ≡ o → IsTrue (is_name s.lockspace)
  by (Some j) its =
      let b = joined_by st es s j there its in
      let text = command_is_read st es j (AddLockspace b.arg) b.command in
      let arg : IsLockspaceArg st.layout b.arg = setting.reads text.0 (AddLockspace b.arg) text.1 in
      subst (λ (z : Session). IsTrue (is_name z.lockspace)) (sym b.session) arg.name
  by None its =
      let g = given_one st es s there its in
      let is : IsGiven st g.0 = all_inside (IsGiven st) st.given g.0 setting.each g.2 in
      subst (λ (z : Session). IsTrue (is_name z.lockspace)) g.3 is.lockspace

few : (z : Sizes) → IsGeometry z → z.hosts ≤ most_hosts
few z g = grind (arith, nat_tests, g)

pub few_hosts : (st : Setting) → IsSetting st → st.layout.hosts ≤ most_hosts
few_hosts st i = subst (λ n. n ≤ most_hosts) (sym (ap (λ l. l.hosts) i.layout.2)) (few i.layout.0 i.layout.1)

below : (a b c : ℕ) → a ≤ b → b ≤ c → a ≤ c
below a b c low high = omega (arith, low, high)

-- Its id is one of the most hosts'.
pub session_id : (st : Setting) (es : Trace) (s : Session) → IsSetting st → Contains (sessions st es) s → (1 ≤ s.id) × (s.id ≤ most_hosts)
session_id st es s i there =
    let id = id_in_range st i es s there in
    (id.0, below s.id st.layout.hosts most_hosts id.1 (few_hosts st i))

-- ---- bits

filtered_range : (p : ℕ → Bool) (a n : ℕ) → 1 ≤ a → a + n ≤ most_hosts + 1 → list_all (is_in_range 1 most_hosts) (filter p (range_with_len a n)) ≡ true
filtered_range p a zero low high = refl
filtered_range p a (suc n) low high = by (p a) (filtered_range p (a + 1) n (omega (arith, low)) (omega (arith, high))) where
  first : is_in_range 1 most_hosts a ≡ true
  first = grind (arith, nat_tests, low, high)

  by : (b : Bool) → list_all (is_in_range 1 most_hosts) (filter p (range_with_len (a + 1) n)) ≡ true
      → list_all (is_in_range 1 most_hosts) (if b then a ∷ filter p (range_with_len (a + 1) n) else filter p (range_with_len (a + 1) n)) ≡ true
  by true rest = ap (λ b. b && list_all (is_in_range 1 most_hosts) (filter p (range_with_len (a + 1) n))) first ∙ rest
  by false rest = rest

-- The bits of some of a run's hosts are bytes.
pub bits_of_hosts : (st : Setting) (p : ℕ → Bool) → IsSetting st → AreBytes 250 (bitmap_of (filter p (range_with_len 1 st.layout.hosts)))
bits_of_hosts st p i =
    let most : st.layout.hosts ≤ most_hosts = few_hosts st i in
    (listed_are_set (filter p (range_with_len 1 st.layout.hosts)) (filtered_range p 1 st.layout.hosts (omega arith) (omega (arith, most)))).0

pub no_bits_bytes : AreBytes 250 no_bits
no_bits_bytes = none_is_set.0

-- ---- delta records

pub fits_it : (n : ℕ) → is_number n ≡ true → Fits n
fits_it n h = grind (arith, tests)

not_none : (n : ℕ) → 1 ≤ n → n ≡ 0 → ⊥
not_none n one is = omega (arith, one, is)

-- A record of a generation above 0 whose numbers fit.
pub delta_is : (st : Setting) (es : Trace) (s : Session) (state : DeltaState) (generation seq now : ℕ) (bits : List ℕ) → IsSetting st → Contains (sessions st es) s → 1 ≤ generation → Fits generation → Fits seq → now < moments → AreBytes 250 bits
    → IsDelta (delta_record (delta_of_session st s) state generation seq now bits)
delta_is st es s state generation seq now bits i there some gen sq moment bytes =
    record {
      id = session_id st es s i there;
      generation = gen;
      seq = sq;
      stamp = moment;
      lockspace = session_named_well st es s i there;
      bitmap = bytes;
      unused = λ none. absurd (not_none generation some none);
      used = λ used. i.name;
    }

-- ---- requests

-- A request of a command; the cleared one names no host.
pub request_is : (force asked id : ℕ) → IsRequestArg asked force → id ≤ most_hosts → IsRequest (record { force = force; host = (if asked == 0 then 0 else id); lver = asked })
request_is force asked id arg most = record { force = arg.forces; host = by (asked == 0); lver = arg.below; same = arg.clears } where
  by : (b : Bool) → (if b then 0 else id) ≤ most_hosts
  by true = omega arith
  by false = most
