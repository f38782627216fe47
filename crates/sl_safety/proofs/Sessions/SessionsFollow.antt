-- Of two joined sessions of one id one is over where the other first stands joined: the fronts at which they first stand joined are compared,
-- and where neither comes before the other at most one of the two acts.
use Rattle.sl_run_law.proofs.Course.MachinesMirror.{machines_mirror}
use Rattle.sl_run_law.proofs.Front.RunsFromFronts.{fronts_are_lawful}
use Rattle.sl_id_safety.proofs.IdInterface.{joined_stays}
use Rattle.sl_id_safety.proofs.IdSafety.{joiners_find_over, one_acts_for_each_id}
use Rattle.sl_id_safety.proofs.OverIsQuiet.{goes_on}
use Rattle.sl_id_safety.proofs.State.LaterFrames.{found_later}
use Rattle.sl_run_law.proofs.Moment.LaterThanFront.{fronts_go}
use Rattle.sl_safety.specs.Resources.Histories.{joined_step}
use Rattle.sl_run.specs.Runs.{Happening}
use Rattle.sl_run.specs.Safety.{Found, HasJoined, IsSession, LawfulRun, SameId, SessionId, is_over, world_at}
use Rattle.sl_run.specs.Worlds.{Program}
use Rattle.sl_run.specs.declared.header.Header.{Header}
use Rattle.sl_safety.proofs.Sessions.FollowingJoins.{FirstJoined, HasEntry, NotJoined, first_joined, joined_early}
use Rattle.sl_trace.specs.declared.session.Session.{Session}
use Rattle.sl_trace.specs.Traces.{same_place}
use Rattle.sl_words.proofs.CaseLaws.{some_value}
use Rattle.std.proofs.Common.{ap, arith, inl, inr, refl, subst, sym, ◌∙◌}
use Rattle.std.specs.Prelude.{Bool, IsTrue, List, Some, [], drop, false, slice_get, true, ℕ, ◌++◌, ◌+◌, ◌∷◌, ◌≡◌, ◌≤◌, ◌⊎◌}

-- ---- fronts of one run

-- Of two fronts of one list one is a front of the other.
pub fronts_compare : {A : Type 0} (a ra b rb : List A) → a ++ ra ≡ b ++ rb → ((c : List A) × (b ≡ a ++ c)) ⊎ ((y : A) × (c : List A) × (a ≡ b ++ y ∷ c))
fronts_compare [] ra b rb same = inl (b, refl)
fronts_compare (x ∷ a) ra [] rb same = inr (x, a, refl)
fronts_compare {A} (x ∷ a) ra (y ∷ b) rb same = by (fronts_compare a ra b rb (ap (λ xs. drop 1 xs) same)) where
  head : x ≡ y
  head = some_value x y (ap (λ xs. slice_get xs 0) same)

  by : ((c : List A) × (b ≡ a ++ c)) ⊎ ((z : A) × (c : List A) × (a ≡ b ++ z ∷ c)) → ((c : List A) × (y ∷ b ≡ x ∷ a ++ c)) ⊎ ((z : A) × (c : List A) × (x ∷ a ≡ y ∷ b ++ z ∷ c))
  by (inl r) = inl (r.0, ap (λ z. z ∷ b) (sym head) ∙ ap (λ zs. x ∷ zs) r.1)
  by (inr r) = inr (r.0, r.1, ap (λ z. z ∷ a) head ∙ ap (λ zs. y ∷ zs) r.2)

pub append_apart : {A : Type 0} (a b c : List A) → (a ++ b) ++ c ≡ a ++ (b ++ c)
append_apart [] b c = refl
append_apart (x ∷ a) b c = ap (λ xs. x ∷ xs) (append_apart a b c)

-- A later front is of a later step.
pub steps_rise : (p : Program) (h : Header) (now rest : List Happening) → LawfulRun p h (now ++ rest) → (world_at p h now).step ≤ (world_at p h (now ++ rest)).step
steps_rise p h now rest run = (fronts_go p h now rest run).step

-- ---- a session at a later front

-- A joined session at a front.
pub record StandsAt (p : Program) (h : Header) (xs : List Happening) (i : SessionId) (s : Session) : Type 0 where
  pub found : Found
  pub its : IsSession (world_at p h xs) i found
  pub joined : HasJoined found
  pub session : found.session ≡ s

pub stands_later : (p : Program) (h : Header) (now rest : List Happening) → LawfulRun p h (now ++ rest) → (i : SessionId) (s : Session) → StandsAt p h now i s → StandsAt p h (now ++ rest) i s
stands_later p h now rest run i s b =
    let l = found_later machines_mirror p h now rest run i b.found b.its in
    record { found = l.found; its = l.at; joined = joined_stays p h now rest run i b.found l.found b.its l.at b.joined; session = l.session ∙ b.session }

-- The same id, by the sessions alone.
abbrev pub OneId : Session → Session → Type 0
OneId s t = IsTrue (same_place s.path s.offset t.path t.offset) × (s.id ≡ t.id)

one_id : (f g : Found) (s t : Session) → f.session ≡ s → g.session ≡ t → OneId s t → SameId f g
one_id f g s t a b same = subst (λ x. OneId f.session x) (sym b) (subst (λ x. OneId x t) (sym a) same)

-- ---- over where another joins

-- The session is over at a front that comes right after this step, or before.
pub record IsOverBy (p : Program) (h : Header) (xs : List Happening) (i : SessionId) (n : ℕ) : Type 0 where
  pub now : List Happening
  pub rest : List Happening
  pub whole : xs ≡ now ++ rest
  pub found : Found
  pub its : IsSession (world_at p h now) i found
  pub joined : HasJoined found
  pub over : is_over i found ≡ true
  pub early : (world_at p h now).step ≤ n + 1

-- .. and that is where another joins.
abbrev pub IsOverWhenJoins : Program → Header → List Happening → SessionId → SessionId → Type 0
IsOverWhenJoins p h xs i k = (g : Found) → IsSession (world_at p h xs) k g → (n : ℕ) → joined_step g ≡ Some n → IsOverBy p h xs i n

-- Two sessions are one, or one is over where the other joins.
abbrev pub Sequel : Program → Header → List Happening → SessionId → SessionId → Type 0
Sequel p h xs i k = (i ≡ k) ⊎ (IsOverWhenJoins p h xs i k ⊎ IsOverWhenJoins p h xs k i)

-- A front at which both have joined, and that isn't later than where either joined.
record Meeting (p : Program) (h : Header) (xs : List Happening) (i k : SessionId) (s t : Session) : Type 0 where
  now : List Happening
  rest : List Happening
  whole : xs ≡ now ++ rest
  one : StandsAt p h now i s
  two : StandsAt p h now k t
  early : (g : Found) → IsSession (world_at p h xs) i g → (n : ℕ) → joined_step g ≡ Some n → (world_at p h now).step ≤ n + 1
  soon : (g : Found) → IsSession (world_at p h xs) k g → (n : ℕ) → joined_step g ≡ Some n → (world_at p h now).step ≤ n + 1

met : (p : Program) (h : Header) (xs : List Happening) → LawfulRun p h xs → (i k : SessionId) (s t : Session) → OneId s t → Meeting p h xs i k s t → Sequel p h xs i k
met p h xs run i k s t same m = by (is_over i m.one.found) refl (is_over k m.two.found) refl where
  by : (b : Bool) → is_over i m.one.found ≡ b → (c : Bool) → is_over k m.two.found ≡ c → Sequel p h xs i k
  by true is c at =
      inr (inl (λ g its n joins. record { now = m.now; rest = m.rest; whole = m.whole; found = m.one.found; its = m.one.its; joined = m.one.joined; over = is; early = m.soon g its n joins }))
  by false is true at =
      inr (inr (λ g its n joins. record { now = m.now; rest = m.rest; whole = m.whole; found = m.two.found; its = m.two.its; joined = m.two.joined; over = at; early = m.early g its n joins }))
  by false is false at =
      inl (one_acts_for_each_id p h m.now (fronts_are_lawful p h m.now m.rest (subst (λ ys. LawfulRun p h ys) m.whole run)) i k m.one.found m.two.found m.one.its m.two.its
      m.one.joined m.two.joined (one_id m.one.found m.two.found s t m.one.session m.two.session same) is at)

-- One that had joined before the event by which another did is over after it.
found_over : (p : Program) (h : Header) (xs : List Happening) → LawfulRun p h xs → (i k : SessionId) (s t : Session) → OneId s t → (y : FirstJoined p h xs k) → y.found.session ≡ t
    → (before : List Happening) (last : Happening) → y.now ≡ before ++ last ∷ [] → NotJoined p h before k → StandsAt p h before i s → IsOverWhenJoins p h xs i k
found_over p h xs run i k s t same y session before last is never b g its n joins =
    let front : LawfulRun p h (y.now ++ y.rest) = subst (λ ys. LawfulRun p h ys) y.whole run in
    let until : LawfulRun p h (before ++ last ∷ []) = subst (λ ys. LawfulRun p h ys) is (fronts_are_lawful p h y.now y.rest front) in
    let later = stands_later p h before (last ∷ []) until i s b in
    let over = joiners_find_over p h before (last ∷ []) until i k b.found later.found y.found b.its b.joined later.its (subst (λ ys. IsSession (world_at p h ys) k y.found) is y.its)
    y.joined never (one_id b.found y.found s t b.session session same) in
    record {
      now = y.now;
      rest = y.rest;
      whole = y.whole;
      found = later.found;
      its = subst (λ ys. IsSession (world_at p h ys) i later.found) (sym is) later.its;
      joined = later.joined;
      over = over;
      early = joined_early p h xs run k g its y n joins;
    }

-- ---- two first fronts

at_first : (p : Program) (h : Header) (xs : List Happening) (i : SessionId) (x : FirstJoined p h xs i) → StandsAt p h x.now i x.found.session
at_first p h xs i x = record { found = x.found; its = x.its; joined = x.joined; session = refl }

-- Where it first stood joined at a front of another front, it stands joined there.
stands_there : (p : Program) (h : Header) (xs : List Happening) → LawfulRun p h xs → (i : SessionId) (x : FirstJoined p h xs i) → (now c rest : List Happening) → now ≡ x.now ++ c → xs ≡ now ++ rest
    → StandsAt p h now i x.found.session
stands_there p h xs run i x now c rest is whole =
    subst (λ ys. StandsAt p h ys i x.found.session) (sym is)
    (stands_later p h x.now c (subst (λ ys. LawfulRun p h ys) is (fronts_are_lawful p h now rest (subst (λ ys. LawfulRun p h ys) whole run))) i x.found.session (at_first p h xs i x))

step_later : (p : Program) (h : Header) (xs : List Happening) → LawfulRun p h xs → (a b c rest : List Happening) → b ≡ a ++ c → xs ≡ b ++ rest → (world_at p h a).step ≤ (world_at p h b).step
step_later p h xs run a b c rest is whole =
    subst (λ ys. (world_at p h a).step ≤ (world_at p h ys).step) (sym is)
    (steps_rise p h a c (subst (λ ys. LawfulRun p h ys) is (fronts_are_lawful p h b rest (subst (λ ys. LawfulRun p h ys) whole run))))

through : (a b n : ℕ) → a ≤ b → b ≤ n + 1 → a ≤ n + 1
through a b n p q = omega (arith, p, q)

whole_before : (xs now rest before : List Happening) (last : Happening) → xs ≡ now ++ rest → now ≡ before ++ last ∷ [] → xs ≡ before ++ last ∷ rest
whole_before xs now rest before last whole is = whole ∙ ap (λ ys. ys ++ rest) is ∙ append_apart before (last ∷ []) rest

rest_is : {A : Type 0} (a b c : List A) → a ++ b ≡ a ++ c → b ≡ c
rest_is [] b c same = same
rest_is (x ∷ a) b c same = rest_is a b c (ap (λ xs. drop 1 xs) same)

begins : (n : ℕ) → 1 ≤ n + 1
begins n = omega arith

-- Where the first front of one is not before that of the other.
sequel_by : (p : Program) (h : Header) (xs : List Happening) → LawfulRun p h xs → (i k : SessionId) (x : FirstJoined p h xs i) (y : FirstJoined p h xs k)
    → OneId x.found.session y.found.session → OneId y.found.session x.found.session
    → ((x.now ≡ []) ⊎ ((before : List Happening) × (last : Happening) × (x.now ≡ before ++ last ∷ []) × NotJoined p h before i × HasEntry p h x.now x.found))
    → ((c : List Happening) × (x.now ≡ y.now ++ c)) → Sequel p h xs i k
sequel_by p h xs run i k x y same back first behind = by first where
  meet : ((g : Found) → IsSession (world_at p h xs) k g → (n : ℕ) → joined_step g ≡ Some n → (world_at p h x.now).step ≤ n + 1) → Sequel p h xs i k
  meet soon =
      met p h xs run i k x.found.session y.found.session same
      (record {
        now = x.now;
        rest = x.rest;
        whole = x.whole;
        one = at_first p h xs i x;
        two = stands_there p h xs run k y x.now behind.0 x.rest behind.1 x.whole;
        early = λ g its n joins. joined_early p h xs run i g its x n joins;
        soon = soon;
      })

  compare : (before : List Happening) (last : Happening) → x.now ≡ before ++ last ∷ [] → NotJoined p h before i
      → ((c : List Happening) × (before ≡ y.now ++ c)) ⊎ ((z : Happening) × (c : List Happening) × (y.now ≡ before ++ z ∷ c)) → Sequel p h xs i k
  compare before last is never (inl early) =
      inr (inr (found_over p h xs run k i y.found.session x.found.session back x refl before last is never
      (stands_there p h xs run k y before early.0 (last ∷ x.rest) early.1 (whole_before xs x.now x.rest before last x.whole is))))
  compare before last is never (inr late) = meet (λ g its n joins. through (world_at p h x.now).step (world_at p h y.now).step n (both late) (joined_early p h xs run k g its y n joins)) where
    both : ((z : Happening) × (c : List Happening) × (y.now ≡ before ++ z ∷ c)) → (world_at p h x.now).step ≤ (world_at p h y.now).step
    both l =
        let whole : before ++ last ∷ x.rest ≡ before ++ l.0 ∷ (l.1 ++ y.rest) =
        sym (whole_before xs x.now x.rest before last x.whole is) ∙ y.whole ∙ ap (λ ys. ys ++ y.rest) l.2 ∙ append_apart before (l.0 ∷ l.1) y.rest in
        let event : last ≡ l.0 = some_value last l.0 (ap (λ ys. slice_get ys 0) (rest_is before (last ∷ x.rest) (l.0 ∷ (l.1 ++ y.rest)) whole)) in
        step_later p h xs run x.now y.now l.1 y.rest
        (l.2 ∙ ap (λ z. before ++ z ∷ l.1) (sym event) ∙ sym (append_apart before (last ∷ []) l.1) ∙ ap (λ ys. ys ++ l.1) (sym is)) y.whole

  by : (x.now ≡ []) ⊎ ((before : List Happening) × (last : Happening) × (x.now ≡ before ++ last ∷ []) × NotJoined p h before i × HasEntry p h x.now x.found) → Sequel p h xs i k
  by (inl none) = meet (λ g its n joins. subst (λ ys. (world_at p h ys).step ≤ n + 1) (sym none) (begins n))
  by (inr l) =
      compare l.0 l.1 l.2 l.3
      (fronts_compare y.now y.rest l.0 (l.1 ∷ x.rest) (sym y.whole ∙ whole_before xs x.now x.rest l.0 l.1 x.whole l.2))

turned : {p : Program} {h : Header} {xs : List Happening} (i k : SessionId) → Sequel p h xs k i → Sequel p h xs i k
turned i k (inl same) = inl (sym same)
turned i k (inr (inl one)) = inr (inr one)
turned i k (inr (inr two)) = inr (inl two)

session_at_first : (p : Program) (h : Header) (xs : List Happening) → LawfulRun p h xs → (i : SessionId) (f : Found) → IsSession (world_at p h xs) i f → (x : FirstJoined p h xs i)
    → f.session ≡ x.found.session
session_at_first p h xs run i f its x =
    (goes_on p h x.now x.rest (subst (λ ys. LawfulRun p h ys) x.whole run) i x.found f x.its (subst (λ ys. IsSession (world_at p h ys) i f) x.whole its)).session

sequel_at : (p : Program) (h : Header) (xs : List Happening) → LawfulRun p h xs → (i k : SessionId) (x : FirstJoined p h xs i) (y : FirstJoined p h xs k)
    → OneId x.found.session y.found.session → OneId y.found.session x.found.session → Sequel p h xs i k
sequel_at p h xs run i k x y same back = by (fronts_compare y.now y.rest x.now x.rest (sym y.whole ∙ x.whole)) where
  by : ((c : List Happening) × (x.now ≡ y.now ++ c)) ⊎ ((z : Happening) × (c : List Happening) × (y.now ≡ x.now ++ z ∷ c)) → Sequel p h xs i k
  by (inl behind) = sequel_by p h xs run i k x y same back x.begins behind
  by (inr ahead) = turned i k (sequel_by p h xs run k i y x back same y.begins (ahead.0 ∷ ahead.1, ahead.2))

-- Two joined sessions of one id.
pub sequel : (p : Program) (h : Header) (xs : List Happening) → LawfulRun p h xs → (i k : SessionId) (f g : Found) → IsSession (world_at p h xs) i f → IsSession (world_at p h xs) k g
    → HasJoined f → HasJoined g → SameId f g → SameId g f → Sequel p h xs i k
sequel p h xs run i k f g its also joined joins same back =
    let x = first_joined p h xs run i f its joined in
    let y = first_joined p h xs run k g also joins in
    let a = session_at_first p h xs run i f its x in
    let b = session_at_first p h xs run k g also y in
    sequel_at p h xs run i k x y (subst (λ t. OneId x.found.session t) b (subst (λ s. OneId s g.session) a same)) (subst (λ t. OneId y.found.session t) a (subst (λ s. OneId s f.session) b back))
