-- The header of lines that were taken is one that a world may begin with.
use Rattle.sl_run_law.proofs.Place.FoundInLists.{same_text}
use Rattle.sl_area.specs.AreaSizes.{IsGeometry, Sizes, is_geometry, most_ids, most_ids_of_all, roomy}
use Rattle.sl_play.proofs.Headers.LineKinds.{area_fits, area_kind, clock_fits, clock_kind, disk_fits, disk_kind, hosts_kind, ids_fit, ids_kind, lease_fits, lease_kind, line_of_times, member_fits, member_kind, retries_kind, sizes_fit, sizes_ranked, times_fit, times_kind, version_kind}
use Rattle.sl_play.proofs.Headers.ListFacts.{first_inside, none_passes, pairs_append, pairs_map}
use Rattle.sl_play.proofs.Headers.WellFormedLines.{IsOffset}
use Rattle.sl_play.proofs.Headers.HeadersOfLines.{read_alike, read_lines}
use Rattle.sl_play.proofs.Headers.TakenLines.{AreHeaderLines, GoesAcross, IsKind, IsLineBehind, StandsIn, across_stand, area_so_far, each_picked, each_stands, few_stand, formed, one_before, pairs_stand, picked_later, same_first, told_before}
use Rattle.sl_play.specs.Headers.HeaderLaw.{EachHeaderIsGood}
use Rattle.sl_words.proofs.Lists.{any_found, contains_first, in_map}
use Rattle.sl_report.specs.HeaderLines.{AreaLine, BeginLine, ClockLine, DiskLine, GeometryLine, HeaderLine, HostsLine, IdsLine, LeaseLine, LvmLine, MemberLine, area_line, clock_line, disk_line, first_line, geometry_line, header_of, hosts_line, ids_line, lease_line, member_line, no_timing, rank, retries_line, timing_line, version_line}
use Rattle.sl_report.specs.HeaderRefusals.{is_on_disk}
use Rattle.sl_report.specs.Schedules.{default_area, default_sector, numbered_lines}
use Rattle.sl_run.specs.Headers.{GoTogether, IsArea, IsHeader, IsMember}
use Rattle.sl_run.specs.Worlds.{first_that, mebibyte}
use Rattle.sl_run.specs.declared.event.Refusal.TheVariants.{LimitGeometry, LimitIds}
use Rattle.sl_run.specs.declared.event.Refusal.{Refusal}
use Rattle.sl_run.specs.declared.header.Disk.{Disk}
use Rattle.sl_run.specs.declared.header.FirstReading.{FirstReading}
use Rattle.sl_run.specs.declared.header.LockspaceLine.{LockspaceLine}
use Rattle.sl_run.specs.declared.header.ResourceLine.{ResourceLine}
use Rattle.sl_run.specs.declared.header.SessionLine.{SessionLine}
use Rattle.sl_schedule.proofs.SizeLaws.{sizes_taken}
use Rattle.sl_text.specs.Names.{is_name, is_path}
use Rattle.sl_time.specs.Times.{IsTiming}
use Rattle.sl_words.proofs.CaseLaws.{not_both}
use Rattle.sl_words.proofs.WordLaws.{and_true, choose_some}
use Rattle.sl_words.specs.Words.{first_of_list, some_is}
use Rattle.std.proofs.Common.{Bool, List, None, Option, Some, [], ap, arith, false, length, map, not, refl, subst, sym, true, ℕ, ◌%◌, ◌&&◌, ◌*◌, ◌++◌, ◌+◌, ◌<◌, ◌^◌, ◌∙◌, ◌∷◌, ◌≡◌, ◌≤◌}
use Rattle.std.proofs.lemmas.Bool.Decides.{nat_tests}
use Rattle.std.proofs.lemmas.Bool.{eq-eqb, eqb-true, leb-true, or_parts}
use Rattle.std.proofs.lemmas.Slice.Eq.{bytes_eq-Decides}
use Rattle.std.specs.List.{AllPairs, Contains, filter_map, list_any}
use Rattle.std.specs.Prelude.{IsTrue, bytes_eq, nat_le, nat_lt, unwrap_or, ◌==◌, ◌||◌, ◌≢◌, is_none}

-- ---- texts and numbers

text_same : (a b : List ℕ) → a ≡ b → bytes_eq a b ≡ true
text_same a b is = (bytes_eq-Decides a b).1 is

other_text : (a b : List ℕ) → bytes_eq a b ≡ false → a ≢ b
other_text a b h is = not_both (bytes_eq a b) (text_same a b is) h

other_number : (a b : ℕ) → (a == b) ≡ false → a ≢ b
other_number a b h is = not_both (a == b) (eq-eqb a b is) h

elsewhere : (path other : List ℕ) (offset here : ℕ) → (bytes_eq path other && offset == here) ≡ false → path ≡ other → offset ≡ here → ⊥
elsewhere path other offset here apart paths same =
    let p : bytes_eq path other ≡ true = text_same path other paths in
    let q : (offset == here) ≡ true = eq-eqb offset here same in absurd cc

-- ---- what stands alone

-- What is given where no line gives any, or by a line.
given_or : {A : Type 0} (xs : List A) (d : A) (P : A → Type 0) → P d → ((x : A) → Contains xs x → P x) → P (unwrap_or (first_of_list xs) d)
given_or [] d P none some = none
given_or (x ∷ xs) d P none some = some x (contains_first x xs)

-- The first line of a kind that must be there, and what is known of it.
first_stands : {A : Type 0} (line : A → HeaderLine) (pick : HeaderLine → Option A) (k : ℕ) → IsKind line pick k → (d : A) (ls : List HeaderLine)
    → AreHeaderLines ls → 1 ≤ length (filter_map pick ls) → StandsIn ls (line (first_line pick d ls))
first_stands line pick k kind d ls all some = each_stands line pick k kind ls all (first_line pick d ls) (first_inside (filter_map pick ls) d some)

times_of : (ls : List HeaderLine) → AreHeaderLines ls → IsLineBehind ls BeginLine
    → IsTiming (first_line timing_line (no_timing, 0) ls).0 × ((first_line timing_line (no_timing, 0) ls).1 ≤ 600000)
times_of ls all begun =
    let some : 1 ≤ length (filter_map timing_line ls) = one_before timing_line 1 times_kind.ranked ls BeginLine begun (omega arith) refl in
    let s = first_stands line_of_times timing_line 1 times_kind (no_timing, 0) ls all some in
    times_fit s.before (first_line timing_line (no_timing, 0) ls) s.behind

machines_of : (ls : List HeaderLine) → AreHeaderLines ls → IsLineBehind ls BeginLine → (1 ≤ first_line hosts_line 0 ls) × (first_line hosts_line 0 ls ≤ 16)
machines_of ls all begun =
    let some : 1 ≤ length (filter_map hosts_line ls) = one_before hosts_line 2 hosts_kind.ranked ls BeginLine begun (omega arith) refl in
    let s = first_stands (λ m. HostsLine m) hosts_line 2 hosts_kind 0 ls all some in
    formed s.before (HostsLine (first_line hosts_line 0 ls)) s.behind

hosts_of : (ls : List HeaderLine) → AreHeaderLines ls → IsLineBehind ls BeginLine
    → (1 ≤ first_line ids_line 0 ls) × (first_line ids_line 0 ls ≤ roomy (first_line version_line false ls) most_ids_of_all)
hosts_of ls all begun =
    let hosts : ℕ = first_line ids_line 0 ls in
    let some : 1 ≤ length (filter_map ids_line ls) = one_before ids_line 3 ids_kind.ranked ls BeginLine begun (omega arith) refl in
    let s = first_stands (λ n. IdsLine n) ids_line 3 ids_kind 0 ls all some in
    let same : first_line version_line false s.before ≡ first_line version_line false ls = same_first version_line 0 version_kind.ranked ls (IdsLine hosts) s false (omega arith) refl in
    (formed s.before (IdsLine hosts) s.behind, subst (λ (b : Bool). hosts ≤ roomy b most_ids_of_all) same (ids_fit s.before hosts s.behind))

-- ---- what may stand alone

retries_of : (ls : List HeaderLine) → AreHeaderLines ls → first_line retries_line 0 ls ≤ 8
retries_of ls all =
    given_or (filter_map retries_line ls) 0 (λ n. n ≤ 8) (omega arith) (λ n has.
    let s = each_stands (λ n. LvmLine n) retries_line 5 retries_kind ls all n has in formed s.before (LvmLine n) s.behind)

no_test : (a b : Bool) (x y : Refusal) → a ≡ false → b ≡ false → first_that ((a, x) ∷ (b, y) ∷ []) ≡ None
no_test false false x y p q = refl
no_test true b x y p q = absurd cc
no_test false true x y p q = absurd cc

-- The sizes in the order in which they are given, with pairs or without.
abbrev sizes_with : ℕ → ℕ → ℕ → Bool → Sizes
sizes_with sector area hosts paired = record { sector = sector; area = area; hosts = hosts; paired = paired }

default_sizes : (hosts : ℕ) (paired : Bool) → 1 ≤ hosts → hosts ≤ roomy paired most_ids_of_all → IsGeometry (sizes_with default_sector default_area hosts paired)
default_sizes hosts true low high = grind (arith, nat_tests)
default_sizes hosts false low high = grind (arith, nat_tests)

geometry_ranked : (l : HeaderLine) (x : ℕ × ℕ) → geometry_line l ≡ Some x → 3 < rank l
geometry_ranked (GeometryLine sector mebibytes) x h = omega arith
geometry_ranked l x h = absurd cc

-- The sizes are those of areas for so many hosts, with pairs or without.
abbrev AreSizes : ℕ → Bool → ℕ × ℕ → Type 0
AreSizes hosts paired x = IsGeometry (sizes_with x.0 x.1 hosts paired)

geometry_of : (ls : List HeaderLine) → AreHeaderLines ls → (hosts : ℕ) (paired : Bool) → first_line ids_line 0 ls ≡ hosts → first_line version_line false ls ≡ paired → 1 ≤ hosts
    → hosts ≤ roomy paired most_ids_of_all → AreSizes hosts paired (first_line geometry_line (default_sector, default_area) ls)
geometry_of ls all hosts paired is told some few =
    given_or (filter_map geometry_line ls) (default_sector, default_area) (AreSizes hosts paired) (default_sizes hosts paired some few) (λ x has.
    let p = each_picked geometry_line ls all x has in
    let behind : 3 < rank p.line = geometry_ranked p.line x p.gives in
    let same : first_line ids_line 0 p.stands.before ≡ hosts = same_first ids_line 3 ids_kind.ranked ls p.line p.stands 0 behind refl ∙ is in
    let pairs : first_line version_line false p.stands.before ≡ paired = same_first version_line 0 version_kind.ranked ls p.line p.stands false (omega arith) refl ∙ told in
    let fit = sizes_fit p.stands.before p.line x p.gives p.stands.behind in
    let enough : some_is (λ most. nat_lt (roomy paired most) hosts) (most_ids x.0 x.1) ≡ false =
    subst (λ (n : ℕ). some_is (λ most. nat_lt (roomy paired most) n) (most_ids x.0 x.1) ≡ false) same
    (subst (λ (b : Bool). some_is (λ most. nat_lt (roomy b most) (first_line ids_line 0 p.stands.before)) (most_ids x.0 x.1) ≡ false) pairs fit.enough) in
    let z : Sizes = sizes_with x.0 x.1 hosts paired in
    (choose_some (is_geometry z) z z
    (sizes_taken x.0 x.1 hosts paired some
    (no_test (is_none (most_ids x.0 x.1)) (some_is (λ most. nat_lt (roomy paired most) hosts) (most_ids x.0 x.1)) LimitGeometry LimitIds fit.are enough))).0)

-- ---- clocks and disks

clock_is : (ls : List HeaderLine) → AreHeaderLines ls → (c : FirstReading) → Contains (filter_map clock_line ls) c
    → (1 ≤ c.machine) × (c.machine ≤ first_line hosts_line 0 ls) × (c.reading < 10 ^ 12)
clock_is ls all c has =
    let s = each_stands (λ c. ClockLine c) clock_line 6 clock_kind ls all c has in
    let words = formed s.before (ClockLine c) s.behind in
    let same : first_line hosts_line 0 s.before ≡ first_line hosts_line 0 ls = same_first hosts_line 2 hosts_kind.ranked ls (ClockLine c) s 0 (omega arith) refl in
    (words.0, subst (λ (m : ℕ). c.machine ≤ m) same (clock_fits s.before c s.behind).machine, words.1)

clocks_differ : (ls : List HeaderLine) (a b : FirstReading) → IsLineBehind ls (ClockLine b) → Contains (filter_map clock_line ls) a → a.machine ≢ b.machine
clocks_differ ls a b behind has =
    other_number a.machine b.machine (none_passes (λ (d : FirstReading). d.machine == b.machine) (filter_map clock_line ls) a (clock_fits ls b behind).free has)

disk_is : (ls : List HeaderLine) → AreHeaderLines ls → (d : Disk) → Contains (filter_map disk_line ls) d → IsTrue (is_path d.path) × (1 ≤ d.mebibytes) × (d.mebibytes ≤ 64)
disk_is ls all d has = let s = each_stands (λ d. DiskLine d) disk_line 7 disk_kind ls all d has in formed s.before (DiskLine d) s.behind

disks_differ : (ls : List HeaderLine) (a b : Disk) → IsLineBehind ls (DiskLine b) → Contains (filter_map disk_line ls) a → a.path ≢ b.path
disks_differ ls a b behind has =
    other_text a.path b.path (none_passes (λ (e : Disk). bytes_eq e.path b.path) (filter_map disk_line ls) a (disk_fits ls b behind) has)

-- ---- areas

record LiesOn (disks : List Disk) (area : ℕ) (path : List ℕ) (offset : ℕ) : Type 0 where
  aligned : offset % area ≡ 0
  on_disk : (d : Disk) × Contains disks d × (d.path ≡ path) × (offset + area ≤ d.mebibytes * mebibyte)

is_aligned : (area offset mebibytes : ℕ) → IsOffset area offset → offset + area ≤ mebibytes * mebibyte → mebibytes ≤ 64 → offset % area ≡ 0
is_aligned area offset mebibytes whole inside small = whole (omega (arith, inside, small))

-- The lines before a line of areas give the size that all lines give.
same_area : (ls : List HeaderLine) (l : HeaderLine) (s : StandsIn ls l) → 4 < rank l → AreHeaderLines ls → area_so_far s.before ≡ area_so_far ls
same_area ls l s less all =
    ap (λ (xs : List (ℕ × ℕ)). (unwrap_or (first_of_list xs) (default_sector, default_area)).1) (told_before geometry_line 4 sizes_ranked ls l s less all)

lies_on : (ls : List HeaderLine) → AreHeaderLines ls → (l : HeaderLine) (s : StandsIn ls l) (area : ℕ) (path : List ℕ) (offset : ℕ) → IsOffset area offset
    → is_on_disk (filter_map disk_line s.before) area path offset ≡ true → LiesOn (filter_map disk_line ls) area path offset
lies_on ls all l s area path offset whole on =
    let found = any_found (λ (d : Disk). bytes_eq d.path path && nat_le (offset + area) (d.mebibytes * mebibyte)) (filter_map disk_line s.before) on in
    let both = and_true (bytes_eq found.0.path path) (nat_le (offset + area) (found.0.mebibytes * mebibyte)) found.2 in
    let inside : offset + area ≤ found.0.mebibytes * mebibyte = leb-true _ _ both.1 in
    let has = picked_later disk_line ls l s found.0 found.1 in
    record {
      aligned = is_aligned area offset found.0.mebibytes whole inside (disk_is ls all found.0 has).2;
      on_disk = (found.0, has, same_text found.0.path path both.0, inside);
    }

-- So does an area of the size that all lines give.
lies_on_all : (ls : List HeaderLine) → AreHeaderLines ls → (l : HeaderLine) (s : StandsIn ls l) → 4 < rank l → (path : List ℕ) (offset : ℕ) → IsOffset (area_so_far s.before) offset
    → is_on_disk (filter_map disk_line s.before) (area_so_far s.before) path offset ≡ true → LiesOn (filter_map disk_line ls) (area_so_far ls) path offset
lies_on_all ls all l s less path offset whole on =
    subst (λ (n : ℕ). LiesOn (filter_map disk_line ls) n path offset) (same_area ls l s less all) (lies_on ls all l s (area_so_far s.before) path offset whole on)

area_in : (ls : List HeaderLine) (path : List ℕ) (offset : ℕ) → LiesOn (filter_map disk_line ls) (area_so_far ls) path offset → IsArea (header_of default_sector default_area ls) path offset
unfolding header_of
area_in ls path offset on = record { aligned = on.aligned; on_disk = on.on_disk }

-- A lockspace of this name stood before.
known_in : (ls : List HeaderLine) (l : HeaderLine) (s : StandsIn ls l) (name : List ℕ) → list_any (λ a. bytes_eq a.name name) (filter_map area_line s.before) ≡ true
    → (a : LockspaceLine) × Contains (filter_map area_line ls) a × (a.name ≡ name)
known_in ls l s name known =
    let found = any_found (λ (a : LockspaceLine). bytes_eq a.name name) (filter_map area_line s.before) known in
    (found.0, picked_later area_line ls l s found.0 found.1, same_text found.0.name name found.2)

space_is : (ls : List HeaderLine) → AreHeaderLines ls → (a : LockspaceLine) → Contains (filter_map area_line ls) a
    → IsTrue (is_name a.name) × LiesOn (filter_map disk_line ls) (area_so_far ls) a.path a.offset
space_is ls all a has =
    let s = each_stands (λ a. AreaLine a) area_line 8 area_kind ls all a has in
    let words = formed s.before (AreaLine a) s.behind in
    (words.0, lies_on_all ls all (AreaLine a) s (omega arith) a.path a.offset words.1 (area_fits s.before a s.behind).on)

spaces_differ : (ls : List HeaderLine) (a b : LockspaceLine) → IsLineBehind ls (AreaLine b) → Contains (filter_map area_line ls) a → a.name ≢ b.name
spaces_differ ls a b behind has =
    other_text a.name b.name (none_passes (λ (l : LockspaceLine). bytes_eq l.name b.name) (filter_map area_line ls) a (area_fits ls b behind).named has)

lease_is : (ls : List HeaderLine) → AreHeaderLines ls → (r : ResourceLine) → Contains (filter_map lease_line ls) r
    → IsTrue (is_name r.name) × LiesOn (filter_map disk_line ls) (area_so_far ls) r.path r.offset × ((a : LockspaceLine) × Contains (filter_map area_line ls) a × (a.name ≡ r.lockspace))
lease_is ls all r has =
    let s = each_stands (λ r. LeaseLine r) lease_line 9 lease_kind ls all r has in
    let words = formed s.before (LeaseLine r) s.behind in
    let fits = lease_fits s.before r s.behind in
    (words.0, lies_on_all ls all (LeaseLine r) s (omega arith) r.path r.offset words.1 fits.on, known_in ls (LeaseLine r) s r.lockspace fits.known)

-- ---- areas begin apart

abbrev place_of_space : LockspaceLine → List ℕ × ℕ
place_of_space a = (a.path, a.offset)

abbrev place_of_lease : ResourceLine → List ℕ × ℕ
place_of_lease r = (r.path, r.offset)

abbrev BeginApart : List ℕ × ℕ → List ℕ × ℕ → Type 0
BeginApart a b = (a.0 ≡ b.0) → (a.1 ≡ b.1) → ⊥

-- A lockspace stands at a place of its own behind lockspaces and resources.
space_apart : (ls : List HeaderLine) (a b : LockspaceLine) → IsLineBehind ls (AreaLine b) → Contains (filter_map area_line ls) a → BeginApart (place_of_space a) (place_of_space b)
space_apart ls a b behind has =
    elsewhere a.path b.path a.offset b.offset
    (none_passes (λ (l : LockspaceLine). bytes_eq l.path b.path && l.offset == b.offset) (filter_map area_line ls) a (area_fits ls b behind).free.lockspaces has)

space_from_lease : (ls : List HeaderLine) (a : LockspaceLine) (r : ResourceLine) → IsLineBehind ls (AreaLine a) → Contains (filter_map lease_line ls) r
    → BeginApart (place_of_space a) (place_of_lease r)
space_from_lease ls a r behind has paths offsets =
    elsewhere r.path a.path r.offset a.offset
    (none_passes (λ (q : ResourceLine). bytes_eq q.path a.path && q.offset == a.offset) (filter_map lease_line ls) r (area_fits ls a behind).free.resources has) (sym paths) (sym offsets)

-- So does a resource.
lease_apart : (ls : List HeaderLine) (q r : ResourceLine) → IsLineBehind ls (LeaseLine r) → Contains (filter_map lease_line ls) q → BeginApart (place_of_lease q) (place_of_lease r)
lease_apart ls q r behind has =
    elsewhere q.path r.path q.offset r.offset
    (none_passes (λ (p : ResourceLine). bytes_eq p.path r.path && p.offset == r.offset) (filter_map lease_line ls) q (lease_fits ls r behind).free.resources has)

lease_from_space : (ls : List HeaderLine) (a : LockspaceLine) (r : ResourceLine) → IsLineBehind ls (LeaseLine r) → Contains (filter_map area_line ls) a
    → BeginApart (place_of_space a) (place_of_lease r)
lease_from_space ls a r behind has =
    elsewhere a.path r.path a.offset r.offset
    (none_passes (λ (l : LockspaceLine). bytes_eq l.path r.path && l.offset == r.offset) (filter_map area_line ls) a (lease_fits ls r behind).free.lockspaces has)

never_both : (l : HeaderLine) (a : LockspaceLine) (r : ResourceLine) → area_line l ≡ Some a → lease_line l ≡ Some r → ⊥
never_both (AreaLine b) a r h k = absurd cc
never_both l a r h k = absurd cc

across : GoesAcross (λ a r. BeginApart (place_of_space a) (place_of_lease r)) area_line lease_line
across =
    record {
      first = λ ls l a r behind is has. space_from_lease ls a r (subst (λ (m : HeaderLine). IsLineBehind ls m) (area_kind.back l a is) behind) has;
      second = λ ls l a r behind is has. lease_from_space ls a r (subst (λ (m : HeaderLine). IsLineBehind ls m) (lease_kind.back l r is) behind) has;
      never = never_both;
    }

places_apart : (ls : List HeaderLine) → AreHeaderLines ls
    → AllPairs BeginApart (map place_of_space (filter_map area_line ls) ++ map place_of_lease (filter_map lease_line ls))
places_apart ls all =
    let spaces : List LockspaceLine = filter_map area_line ls in
    let leases : List ResourceLine = filter_map lease_line ls in
    pairs_append BeginApart (map place_of_space spaces) (map place_of_lease leases)
    (pairs_map BeginApart place_of_space spaces (pairs_stand (λ a. AreaLine a) area_line 8 area_kind (λ a b. BeginApart (place_of_space a) (place_of_space b)) space_apart ls all))
    (pairs_map BeginApart place_of_lease leases (pairs_stand (λ r. LeaseLine r) lease_line 9 lease_kind (λ q r. BeginApart (place_of_lease q) (place_of_lease r)) lease_apart ls all))
    (λ x y in_spaces in_leases.
    let a = in_map place_of_space spaces x in_spaces in
    let r = in_map place_of_lease leases y in_leases in
    subst (λ (z : List ℕ × ℕ). BeginApart z y) a.2 (subst (λ (z : List ℕ × ℕ). BeginApart (place_of_space a.0) z) r.2
    (across_stand (λ a r. BeginApart (place_of_space a) (place_of_lease r)) area_line lease_line across ls all a.0 r.0 a.1 r.1)))

-- ---- sessions

record MemberIs (ls : List HeaderLine) (s : SessionLine) : Type 0 where
  machine : (1 ≤ s.machine) × (s.machine ≤ first_line hosts_line 0 ls)
  id : (1 ≤ s.id) × (s.id ≤ first_line ids_line 0 ls)
  lockspace : (l : LockspaceLine) × Contains (filter_map area_line ls) l × (l.name ≡ s.lockspace)
  name : IsTrue (is_name s.name)

member_is : (ls : List HeaderLine) → AreHeaderLines ls → (s : SessionLine) → Contains (filter_map member_line ls) s → MemberIs ls s
member_is ls all m has =
    let s = each_stands (λ m. MemberLine m) member_line 10 member_kind ls all m has in
    let words = formed s.before (MemberLine m) s.behind in
    let fits = member_fits s.before m s.behind in
    let machines : first_line hosts_line 0 s.before ≡ first_line hosts_line 0 ls = same_first hosts_line 2 hosts_kind.ranked ls (MemberLine m) s 0 (omega arith) refl in
    let hosts : first_line ids_line 0 s.before ≡ first_line ids_line 0 ls = same_first ids_line 3 ids_kind.ranked ls (MemberLine m) s 0 (omega arith) refl in
    record {
      machine = (words.0, subst (λ (n : ℕ). m.machine ≤ n) machines fits.machine);
      id = (words.1, subst (λ (n : ℕ). m.id ≤ n) hosts fits.id);
      lockspace = known_in ls (MemberLine m) s m.lockspace fits.known;
      name = words.2;
    }

not_first : (a b c : Bool) → (a && (b || c)) ≡ false → a ≡ true → b ≡ true → ⊥
not_first a b c h p q = absurd cc

not_second : (a b c : Bool) → (a && (b || c)) ≡ false → a ≡ true → c ≡ true → ⊥
not_second true true c h p q = absurd cc
not_second true false c h p q = absurd cc
not_second false b c h p q = absurd cc

second_holds : (c n : Bool) → (c && not n) ≡ false → c ≡ true → n ≡ true
second_holds true true h p = refl
second_holds true false h p = absurd cc
second_holds false n h p = absurd cc

first_holds : (c n : Bool) → (not c && n) ≡ false → n ≡ true → c ≡ true
first_holds true n h p = refl
first_holds false true h p = absurd cc
first_holds false false h p = absurd cc

go_together : (o s : SessionLine)
    → (bytes_eq o.lockspace s.lockspace && (o.id == s.id || o.machine == s.machine) || o.machine == s.machine && not (bytes_eq o.name s.name)) ≡ false
    → (not (o.machine == s.machine) && bytes_eq o.name s.name) ≡ false → GoTogether o s
go_together o s free named =
    let space : Bool = bytes_eq o.lockspace s.lockspace in
    let id : Bool = o.id == s.id in
    let machine : Bool = o.machine == s.machine in
    let name : Bool = bytes_eq o.name s.name in
    let parts = or_parts (space && (id || machine)) (machine && not name) free in
    record {
      ids = λ spaces ids. not_first space id machine parts.0 (text_same o.lockspace s.lockspace spaces) (eq-eqb o.id s.id ids);
      once = λ spaces machines. not_second space id machine parts.0 (text_same o.lockspace s.lockspace spaces) (eq-eqb o.machine s.machine machines);
      names = (
        (λ names. eqb-true o.machine s.machine (first_holds machine name named (text_same o.name s.name names))),
        (λ machines. same_text o.name s.name (second_holds machine name parts.1 (eq-eqb o.machine s.machine machines))),
      );
    }

members_together : (ls : List HeaderLine) (o s : SessionLine) → IsLineBehind ls (MemberLine s) → Contains (filter_map member_line ls) o → GoTogether o s
members_together ls o s behind has =
    let fits = member_fits ls s behind in
    go_together o s
    (none_passes (λ (o : SessionLine). bytes_eq o.lockspace s.lockspace && (o.id == s.id || o.machine == s.machine) || o.machine == s.machine && not (bytes_eq o.name s.name)) (filter_map member_line ls) o fits.free has)
    (none_passes (λ (o : SessionLine). not (o.machine == s.machine) && bytes_eq o.name s.name) (filter_map member_line ls) o fits.named has)

-- ---- the header

member_in : (ls : List HeaderLine) (s : SessionLine) → MemberIs ls s → IsMember (header_of default_sector default_area ls) s
unfolding header_of
member_in ls s m = record { machine = m.machine; id = m.id; lockspace = m.lockspace; name = m.name }

is_header : (ls : List HeaderLine) → AreHeaderLines ls → IsLineBehind ls BeginLine → IsHeader (header_of default_sector default_area ls)
unfolding header_of
is_header ls all begun =
    let times = times_of ls all begun in
    let hosts = hosts_of ls all begun in
    record {
      timing = times.0;
      grace = times.1;
      machines = machines_of ls all begun;
      geometry = geometry_of ls all (first_line ids_line 0 ls) (first_line version_line false ls) refl refl hosts.0 hosts.1;
      retries = retries_of ls all;
      clocks = clock_is ls all;
      one_clock = pairs_stand (λ c. ClockLine c) clock_line 6 clock_kind (λ a b. a.machine ≢ b.machine) clocks_differ ls all;
      disks = disk_is ls all;
      one_disk = pairs_stand (λ d. DiskLine d) disk_line 7 disk_kind (λ a b. a.path ≢ b.path) disks_differ ls all;
      lockspaces = λ a has. let is = space_is ls all a has in (is.0, area_in ls a.path a.offset is.1);
      one_lockspace = pairs_stand (λ a. AreaLine a) area_line 8 area_kind (λ a b. a.name ≢ b.name) spaces_differ ls all;
      resources = λ r has. let is = lease_is ls all r has in (is.0, area_in ls r.path r.offset is.1, is.2);
      apart = places_apart ls all;
      few = (
        few_stand (λ d. DiskLine d) disk_line 7 8 disk_kind refl ls all,
        few_stand (λ a. AreaLine a) area_line 8 8 area_kind refl ls all,
        few_stand (λ r. LeaseLine r) lease_line 9 256 lease_kind refl ls all,
      );
      members = λ s has. member_in ls s (member_is ls all s has);
      together = pairs_stand (λ s. MemberLine s) member_line 10 member_kind GoTogether members_together ls all;
    }

pub headers_are_good : EachHeaderIsGood
headers_are_good p source h rest is =
    let of = read_lines (numbered_lines source) [] 1 h rest tt (sym (read_alike p (numbered_lines source) [] 1) ∙ is) in
    subst IsHeader (sym of.is) (is_header of.lines of.taken of.begun)
