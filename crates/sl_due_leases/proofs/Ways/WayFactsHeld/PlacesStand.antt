-- Where the calls of a lease stand: in its area. A session's id is a host's.
use Rattle.sl_area.proofs.SizeLaws.{places_lie_in_area}
use Rattle.sl_area.specs.AreaSizes.{Layout, Sizes, layout_with}
use Rattle.sl_area.specs.AreaLayout.{block_offset, block_place, in_area, pair_offset}
use Rattle.sl_trace.specs.Leases.{is_on, spot_of_call}
use Rattle.sl_run_law.proofs.Leases.SpotLaws.{areas_are_apart}
use Rattle.sl_area.specs.Roles.{IsRole, Role, block, pair, role_offset}
use Rattle.sl_run.specs.Lawful.{IsGiven, IsSetting}
use Rattle.sl_sector.specs.SectorLayouts.{is_first_turn}
use Rattle.sl_trace.specs.Sessions.{added, added_by, begun_in, given_session, is_join_call, joining_session, sessions}
use Rattle.sl_trace.specs.declared.session.Session.{Session}
use Rattle.sl_trace.specs.Traces.{Setting, Submitted, Trace, line_in, new_call, next_job}
use Rattle.sl_trace.specs.declared.effects.Call.{Call}
use Rattle.sl_trace.specs.declared.effects.Spot.{Spot}
use Rattle.sl_trace.specs.declared.command.Command.TheVariants.{Acquire, AddLockspace, Convert, GetLvb, HostStatus, InqLockspace, Release, ReleaseOrphan, RemLockspace, Request, RunProgram, SetKillpath, SetLvb, Status, TakeOver}
use Rattle.sl_words.proofs.CaseLaws.{none_some, some_value}
use Rattle.sl_trace.specs.declared.command.Command.{Command}
use Rattle.sl_trace.specs.declared.command.LockspaceArg.{LockspaceArg}
use Rattle.sl_trace.specs.declared.effects.Entry.{Entry}
use Rattle.sl_trace.specs.declared.effects.JoinStep.TheVariants.{FirstRead}
use Rattle.sl_trace.specs.declared.input.Given.{Given}
use Rattle.std.specs.Int.{is_in_range}
use Rattle.sl_words.proofs.Lists.{contains_cases, contains_first, contains_more, contains_none}
use Rattle.std.proofs.lemmas.Slice.Eq.{bytes_eq-Decides}
use Rattle.std.proofs.Common.{ap, arith, inl, inr, refl, subst, sym, tests, ◌∙◌}
use Rattle.std.specs.List.{AllByRecursion, enumerate_from, list_any}
use Rattle.std.specs.Prelude.{Bool, Contains, Err, IsTrue, List, None, Ok, Option, Result, Some, [], bytes_eq, false, length, map, option_and_then, true, ℕ, ◌%◌, ◌&&◌, ◌++◌, ◌+◌, ◌-◌, ◌∷◌, ◌≡◌, ◌≤◌, ◌⊎◌}

-- ---- ids

abbrev pub is_sizes : Setting → Sizes
is_sizes st = record { sector = st.layout.sector; area = st.layout.area; hosts = st.layout.hosts; paired = st.layout.paired }

abbrev IsIn : Setting → ℕ → Type 0
IsIn st id = (1 ≤ id) × (id ≤ st.layout.hosts)

in_range : (hosts id : ℕ) → IsTrue (is_in_range 1 hosts id) → (1 ≤ id) × (id ≤ hosts)
in_range hosts id h = (grind (arith, tests), grind (arith, tests))

given_in : (st : Setting) (n : ℕ) (gs : List Given) → AllByRecursion (IsGiven st) gs → (s : Session) → Contains (map given_session (enumerate_from n gs)) s → IsIn st s.id
given_in st n [] h s there = absurd (contains_none s there)
given_in st n (g ∷ gs) h s there = by (contains_cases (given_session (n, g)) (map given_session (enumerate_from (n + 1) gs)) s there) (λ rest. given_in st (n + 1) gs h.1 s rest) where
  by : (given_session (n, g) ≡ s) ⊎ Contains (map given_session (enumerate_from (n + 1) gs)) s → (Contains (map given_session (enumerate_from (n + 1) gs)) s → IsIn st s.id) → IsIn st s.id
  by (inl is) rest = subst (λ (z : Session). IsIn st z.id) is h.0.id
  by (inr there) rest = rest there

pub either_list : {A : Type 0} (xs ys : List A) (d : A) → Contains (xs ++ ys) d → Contains xs d ⊎ Contains ys d
either_list [] ys d there = inr there
either_list {A} (x ∷ xs) ys d there = by (contains_cases x (xs ++ ys) d there) (λ rest. either_list xs ys d rest) where
  deeper : Contains xs d ⊎ Contains ys d → Contains (x ∷ xs) d ⊎ Contains ys d
  deeper (inl old) = inl (contains_more x xs d old)
  deeper (inr new) = inr new

  by : (x ≡ d) ⊎ Contains (xs ++ ys) d → (Contains (xs ++ ys) d → Contains xs d ⊎ Contains ys d) → Contains (x ∷ xs) d ⊎ Contains ys d
  by (inl is) rest = inl (subst (λ z. Contains (x ∷ xs) z) is (contains_first x xs))
  by (inr inside) rest = deeper (rest inside)

added_value : (r : Result Command ℕ) (a : LockspaceArg) → added r ≡ Some a → r ≡ Ok (AddLockspace a)
added_value (Ok (AddLockspace b)) a is = ap (λ z. Ok (AddLockspace z)) (some_value b a is)
added_value (Ok (RemLockspace b)) a is = absurd (none_some a is)
added_value (Ok (InqLockspace b)) a is = absurd (none_some a is)
added_value (Ok (HostStatus b)) a is = absurd (none_some a is)
added_value (Ok (Acquire r shared p persistent)) a is = absurd (none_some a is)
added_value (Ok (TakeOver r shared p persistent)) a is = absurd (none_some a is)
added_value (Ok (Release r p)) a is = absurd (none_some a is)
added_value (Ok (ReleaseOrphan r)) a is = absurd (none_some a is)
added_value (Ok (Convert r shared p)) a is = absurd (none_some a is)
added_value (Ok (RunProgram r shared path)) a is = absurd (none_some a is)
added_value (Ok (Request r lver force)) a is = absurd (none_some a is)
added_value (Ok (GetLvb r p)) a is = absurd (none_some a is)
added_value (Ok (SetLvb r p bytes)) a is = absurd (none_some a is)
added_value (Ok (SetKillpath p path)) a is = absurd (none_some a is)
added_value (Ok Status) a is = absurd (none_some a is)
added_value (Err column) a is = absurd (none_some a is)

line_adds : (st : Setting) → IsSetting st → (o : Option (List ℕ)) (a : LockspaceArg) → option_and_then (λ text. added (st.read text)) o ≡ Some a → IsIn st a.id
line_adds st is None a adds = absurd (none_some a adds)
line_adds st is (Some text) a adds = in_range st.layout.hosts a.id (is.reads text (AddLockspace a) (added_value (st.read text) a adds)).host

begun_in_range : (st : Setting) → IsSetting st → (es : Trace) (n : ℕ) (e : Entry) (s : Session) → Contains (begun_in st es n e) s → IsIn st s.id
begun_in_range st is es n e s there = by (list_any (λ c. is_join_call FirstRead c.purpose) e.effects.calls) (added_by st e.input) refl there where
  by : (b : Bool) (o : Option LockspaceArg) → added_by st e.input ≡ o
      → Contains (elim b as (λ z. List Session) [ false ↦ [] | true ↦ elim o as (λ z. List Session) [ None ↦ [] | Some a ↦ joining_session n (next_job st es) a ∷ [] ] ]) s → IsIn st s.id
  by false o adds inside = absurd (contains_none s inside)
  by true None adds inside = absurd (contains_none s inside)
  by true (Some a) adds inside =
      elim (contains_cases (joining_session n (next_job st es) a) [] s inside) [
        | inl same ↦ subst (λ (z : Session). IsIn st z.id) same (line_adds st is (line_in e.input) a adds)
        | inr none ↦ absurd (contains_none s none)
      ]

-- A session's id is a host's.
pub id_in_range : (st : Setting) → IsSetting st → (t : Trace) (s : Session) → Contains (sessions st t) s → (1 ≤ s.id) × (s.id ≤ st.layout.hosts)
id_in_range st is [] s there = given_in st 0 st.given is.each s there
id_in_range st is (e ∷ es) s there = by (either_list (sessions st es) (begun_in st es (length (sessions st es)) e) s there) (λ old. id_in_range st is es s old) where
  by : Contains (sessions st es) s ⊎ Contains (begun_in st es (length (sessions st es)) e) s → (Contains (sessions st es) s → IsIn st s.id) → IsIn st s.id
  by (inl old) before = before old
  by (inr new) before = begun_in_range st is es (length (sessions st es)) e s new

-- ---- places

-- Each place of an area is on it.
pub place_is_on : (st : Setting) → IsSetting st → (base : ℕ) (role : Role) → IsRole (is_sizes st) role → in_area st.layout base (role_offset (is_sizes st) base role) ≡ true
place_is_on st is base role fits =
    let g : Sizes = is.layout.0 in
    let same : is_sizes st ≡ g = ap (λ (l : Layout). let z : Sizes = record { sector = l.sector; area = l.area; hosts = l.hosts; paired = l.paired } in z) is.layout.2 in
    subst (λ (l : Layout). in_area l base (role_offset (is_sizes st) base role) ≡ true) (sym is.layout.2)
    (subst (λ (z : Sizes). in_area (layout_with st.layout.digest g) base (role_offset z base role) ≡ true) (sym same)
    ((places_lie_in_area g base is.layout.1).1 role (subst (λ z. IsRole z role) same fits)).0)

-- So is a host's block, of any turn.
pub block_is_on : (st : Setting) → IsSetting st → (base id turn : ℕ) → (1 ≤ id) × (id ≤ st.layout.hosts) → in_area st.layout base (block_place st.layout base id turn) ≡ true
block_is_on st is base id turn host = by st.layout.paired refl where
  by : (q : Bool) → st.layout.paired ≡ q
      → in_area st.layout base (elim q as (λ z. ℕ) [ false ↦ block_offset st.layout base id | true ↦ pair_offset st.layout base id (is_first_turn turn) ]) ≡ true
  by false at = place_is_on st is base (block id) (host, at)
  by true at = place_is_on st is base (pair id (is_first_turn turn)) (host, at)

one_host : (a b : ℕ) → 1 ≤ a → a ≤ b → 1 ≤ b
one_host a b one le = omega (arith, one, le)

-- And the first host's block, or the first sector of its pair, where any id is a host's.
pub first_is_on : (st : Setting) → IsSetting st → (base id : ℕ) → (1 ≤ id) × (id ≤ st.layout.hosts) → in_area st.layout base (block_offset st.layout base 1) ≡ true
first_is_on st is base id host = by st.layout.paired refl where
  one : (1 ≤ 1) × (1 ≤ st.layout.hosts)
  one = (omega arith, one_host id st.layout.hosts host.0 host.1)

  by : (q : Bool) → st.layout.paired ≡ q → in_area st.layout base (block_offset st.layout base 1) ≡ true
  by false at = place_is_on st is base (block 1) (one, at)
  by true at = place_is_on st is base (pair 1 true) (one, at)

same_bytes : (xs : List ℕ) → bytes_eq xs xs ≡ true
same_bytes xs = (bytes_eq-Decides xs xs).1 refl

-- A call at a place of the area is on it.
pub placed_on : (st : Setting) (at : Spot) (c : Call) → c.path ≡ at.path → in_area st.layout at.base c.offset ≡ true → is_on st.layout at c ≡ true
placed_on st at c path inside = ap (λ p. bytes_eq p at.path && in_area st.layout at.base c.offset) path ∙ (ap (λ b. b && in_area st.layout at.base c.offset) (same_bytes at.path) ∙ inside)

none_off : (n k : ℕ) → k ≡ 0 → n - k ≡ n
none_off n k is = omega (arith, is)

-- The area of a call on an area is that.
pub spot_is : (g : Layout) (at : Spot) (m : Submitted) → at.base % g.area ≡ 0 → is_on g at m.call ≡ true → spot_of_call g m ≡ at
spot_is g at m zero on =
    let c : Submitted = new_call 0 0 (record m.call { path = at.path; offset = at.base }) in
    let same : spot_of_call g c ≡ at = ap (λ n. let z : Spot = record { path = at.path; base = n } in z) (none_off at.base (at.base % g.area) zero) in
    areas_are_apart g c m (subst (λ z. is_on g z m.call ≡ true) (sym same) on) ∙ same
