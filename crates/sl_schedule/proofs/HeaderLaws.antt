-- What is kept of a header's lines stands for them: their counts, their header, and one more line.
use Rattle.sl_area.specs.AreaSizes.{Sizes, most_ids, roomy}
use Rattle.sl_report.specs.Languages.{is_skipped, least_lines, most_lines, whole_language}
use Rattle.sl_report.specs.ReadLines.{header_line_in, header_refusal, is_in_order}
use Rattle.sl_report.specs.HeaderLines.{AreaLine, BeginLine, ClockLine, DiskLine, GeometryLine, HeaderLine, HostsLine, IdsLine, LeaseLine, LvmLine, MemberLine, TimeLine, VersionLine, area_line, clock_line, count_of_rank, disk_line, geometry_line, header_of, hosts_line, ids_line, lease_line, member_line, no_timing, rank, retries_line, timing_line, version_line}
use Rattle.sl_report.specs.HeaderRefusals.{header_tests}
use Rattle.sl_report.specs.Schedules.{default_area, default_sector, header_line_refusal, is_begin, with_line}
use Rattle.sl_run.specs.Worlds.{first_that, mebibyte}
use Rattle.sl_run.specs.declared.event.Refusal.TheVariants.{LimitGeometry, LimitIds, Syntax}
use Rattle.sl_run.specs.declared.event.Refusal.{Refusal}
use Rattle.sl_run.specs.declared.header.Header.{Header}
use Rattle.sl_schedule.proofs.SizeLaws.{none_yet, sizes_taken, some_hosts, some_told}
use Rattle.sl_schedule.specs.declared.header.Added.TheVariants.{Begun, More, Refused}
use Rattle.sl_schedule.specs.HeadersSoFar.{HeaderSoFar, HostsAreFew, IsPossible, IsWithin, Stands, answer_after, answer_now, answer_to, bytes_of, count_at, default_sizes, has_least, has_room, header_now, is_in_place, kept_after, lines_after, no_lines, refusal_now, sizes_now, sizes_of, so_far_after, so_far_with}
use Rattle.sl_words.proofs.CaseLaws.{true_or_false}
use Rattle.sl_words.proofs.WordLaws.{and_true}
use Rattle.sl_words.specs.Words.{first_of_list, some_is}
use Rattle.std.proofs.Common.{Bool, List, None, Option, Some, [], ap, arith, cond, false, inl, inr, length, not, refl, subst, suc, sym, true, zero, ℕ, ◌*◌, ◌+◌, ◌&&◌, ◌++◌, ◌<◌, ◌∙◌, ◌∷◌, ◌≡◌, ◌≤◌}
use Rattle.std.proofs.lemmas.Bool.{eqb-true}
use Rattle.std.proofs.lemmas.Bool.Decides.{nat_tests}
use Rattle.std.proofs.lemmas.List.Elements.{filter_map-append}
use Rattle.std.proofs.lemmas.List.Folds.{list_all-append}
use Rattle.std.proofs.lemmas.List.Recursion.{is_count_by}
use Rattle.std.proofs.lemmas.List.Sums.{sum_by-append}
use Rattle.std.proofs.lemmas.List.{append-nil}
use Rattle.std.specs.List.{filter_map, list_all, range_with_len}
use Rattle.std.specs.Option.{IfSome, IsSome, option_map, option_to_list}
use Rattle.std.specs.Prelude.{is_none, nat_le, nat_lt, unwrap_or, ◌==◌}

-- ---- how many lines of a rank there are

-- Lines of a kind are those of its rank.
longer : (n : ℕ) → suc n ≡ 1 + n
longer n = omega arith

version_more : (l : HeaderLine) (ls : List HeaderLine)
    → length (filter_map version_line (l ∷ ls)) ≡ cond (rank l == 0) (1 + length (filter_map version_line ls)) (length (filter_map version_line ls))
version_more (VersionLine paired) ls = longer (length (filter_map version_line ls))
version_more l ls = refl

version_count : (ls : List HeaderLine) → count_of_rank ls 0 ≡ length (filter_map version_line ls)
version_count ls = sym (is_count_by (λ ls. length (filter_map version_line ls)) (λ l. rank l == 0) refl version_more ls)

timing_more : (l : HeaderLine) (ls : List HeaderLine)
    → length (filter_map timing_line (l ∷ ls)) ≡ cond (rank l == 1) (1 + length (filter_map timing_line ls)) (length (filter_map timing_line ls))
timing_more (TimeLine io fire land rho grace) ls = longer (length (filter_map timing_line ls))
timing_more l ls = refl

timing_count : (ls : List HeaderLine) → count_of_rank ls 1 ≡ length (filter_map timing_line ls)
timing_count ls = sym (is_count_by (λ ls. length (filter_map timing_line ls)) (λ l. rank l == 1) refl timing_more ls)

hosts_more : (l : HeaderLine) (ls : List HeaderLine)
    → length (filter_map hosts_line (l ∷ ls)) ≡ cond (rank l == 2) (1 + length (filter_map hosts_line ls)) (length (filter_map hosts_line ls))
hosts_more (HostsLine m) ls = longer (length (filter_map hosts_line ls))
hosts_more l ls = refl

hosts_count : (ls : List HeaderLine) → count_of_rank ls 2 ≡ length (filter_map hosts_line ls)
hosts_count ls = sym (is_count_by (λ ls. length (filter_map hosts_line ls)) (λ l. rank l == 2) refl hosts_more ls)

ids_more : (l : HeaderLine) (ls : List HeaderLine)
    → length (filter_map ids_line (l ∷ ls)) ≡ cond (rank l == 3) (1 + length (filter_map ids_line ls)) (length (filter_map ids_line ls))
ids_more (IdsLine n) ls = longer (length (filter_map ids_line ls))
ids_more l ls = refl

ids_count : (ls : List HeaderLine) → count_of_rank ls 3 ≡ length (filter_map ids_line ls)
ids_count ls = sym (is_count_by (λ ls. length (filter_map ids_line ls)) (λ l. rank l == 3) refl ids_more ls)

geometry_more : (l : HeaderLine) (ls : List HeaderLine)
    → length (filter_map geometry_line (l ∷ ls)) ≡ cond (rank l == 4) (1 + length (filter_map geometry_line ls)) (length (filter_map geometry_line ls))
geometry_more (GeometryLine sector mebibytes) ls = longer (length (filter_map geometry_line ls))
geometry_more l ls = refl

geometry_count : (ls : List HeaderLine) → count_of_rank ls 4 ≡ length (filter_map geometry_line ls)
geometry_count ls = sym (is_count_by (λ ls. length (filter_map geometry_line ls)) (λ l. rank l == 4) refl geometry_more ls)

retries_more : (l : HeaderLine) (ls : List HeaderLine)
    → length (filter_map retries_line (l ∷ ls)) ≡ cond (rank l == 5) (1 + length (filter_map retries_line ls)) (length (filter_map retries_line ls))
retries_more (LvmLine n) ls = longer (length (filter_map retries_line ls))
retries_more l ls = refl

retries_count : (ls : List HeaderLine) → count_of_rank ls 5 ≡ length (filter_map retries_line ls)
retries_count ls = sym (is_count_by (λ ls. length (filter_map retries_line ls)) (λ l. rank l == 5) refl retries_more ls)

clock_more : (l : HeaderLine) (ls : List HeaderLine)
    → length (filter_map clock_line (l ∷ ls)) ≡ cond (rank l == 6) (1 + length (filter_map clock_line ls)) (length (filter_map clock_line ls))
clock_more (ClockLine c) ls = longer (length (filter_map clock_line ls))
clock_more l ls = refl

clock_count : (ls : List HeaderLine) → count_of_rank ls 6 ≡ length (filter_map clock_line ls)
clock_count ls = sym (is_count_by (λ ls. length (filter_map clock_line ls)) (λ l. rank l == 6) refl clock_more ls)

disk_more : (l : HeaderLine) (ls : List HeaderLine)
    → length (filter_map disk_line (l ∷ ls)) ≡ cond (rank l == 7) (1 + length (filter_map disk_line ls)) (length (filter_map disk_line ls))
disk_more (DiskLine d) ls = longer (length (filter_map disk_line ls))
disk_more l ls = refl

disk_count : (ls : List HeaderLine) → count_of_rank ls 7 ≡ length (filter_map disk_line ls)
disk_count ls = sym (is_count_by (λ ls. length (filter_map disk_line ls)) (λ l. rank l == 7) refl disk_more ls)

area_more : (l : HeaderLine) (ls : List HeaderLine)
    → length (filter_map area_line (l ∷ ls)) ≡ cond (rank l == 8) (1 + length (filter_map area_line ls)) (length (filter_map area_line ls))
area_more (AreaLine a) ls = longer (length (filter_map area_line ls))
area_more l ls = refl

area_count : (ls : List HeaderLine) → count_of_rank ls 8 ≡ length (filter_map area_line ls)
area_count ls = sym (is_count_by (λ ls. length (filter_map area_line ls)) (λ l. rank l == 8) refl area_more ls)

lease_more : (l : HeaderLine) (ls : List HeaderLine)
    → length (filter_map lease_line (l ∷ ls)) ≡ cond (rank l == 9) (1 + length (filter_map lease_line ls)) (length (filter_map lease_line ls))
lease_more (LeaseLine r) ls = longer (length (filter_map lease_line ls))
lease_more l ls = refl

lease_count : (ls : List HeaderLine) → count_of_rank ls 9 ≡ length (filter_map lease_line ls)
lease_count ls = sym (is_count_by (λ ls. length (filter_map lease_line ls)) (λ l. rank l == 9) refl lease_more ls)

member_more : (l : HeaderLine) (ls : List HeaderLine)
    → length (filter_map member_line (l ∷ ls)) ≡ cond (rank l == 10) (1 + length (filter_map member_line ls)) (length (filter_map member_line ls))
member_more (MemberLine s) ls = longer (length (filter_map member_line ls))
member_more l ls = refl

member_count : (ls : List HeaderLine) → count_of_rank ls 10 ≡ length (filter_map member_line ls)
member_count ls = sym (is_count_by (λ ls. length (filter_map member_line ls)) (λ l. rank l == 10) refl member_more ls)

-- As many bytes as sizes.
sized_count : (o : Option Sizes) → length (option_to_list (option_map bytes_of o)) ≡ length (option_to_list o)
sized_count None = refl
sized_count (Some z) = refl

-- The counts are those of what is kept.
counts : (r : HeaderSoFar) (ls : List HeaderLine) → Stands r ls → (k : ℕ) → k < 12 → count_of_rank ls k ≡ count_at r k
counts r ls h zero small = version_count ls ∙ ap length h.versions
counts r ls h (suc zero) small = timing_count ls ∙ ap length h.timings
counts r ls h (suc (suc zero)) small = hosts_count ls ∙ ap length h.numbers
counts r ls h (suc (suc (suc zero))) small = ids_count ls ∙ ap length h.ids
counts r ls h (suc (suc (suc (suc zero)))) small = geometry_count ls ∙ ap length h.geometries ∙ sized_count r.sizes
counts r ls h (suc (suc (suc (suc (suc zero))))) small = retries_count ls ∙ ap length h.retried
counts r ls h (suc (suc (suc (suc (suc (suc zero)))))) small = clock_count ls ∙ ap length h.readings
counts r ls h (suc (suc (suc (suc (suc (suc (suc zero))))))) small = disk_count ls ∙ ap length h.paths
counts r ls h (suc (suc (suc (suc (suc (suc (suc (suc zero)))))))) small = area_count ls ∙ ap length h.areas
counts r ls h (suc (suc (suc (suc (suc (suc (suc (suc (suc zero))))))))) small = lease_count ls ∙ ap length h.leases
counts r ls h (suc (suc (suc (suc (suc (suc (suc (suc (suc (suc zero)))))))))) small = member_count ls ∙ ap length h.members
counts r ls h (suc (suc (suc (suc (suc (suc (suc (suc (suc (suc (suc zero))))))))))) small = h.begins
counts r ls h (suc (suc (suc (suc (suc (suc (suc (suc (suc (suc (suc (suc k)))))))))))) small = absurd (omega arith)

-- ---- order

rank_small : (l : HeaderLine) → rank l < 12
rank_small (VersionLine paired) = omega arith
rank_small (TimeLine io fire land rho grace) = omega arith
rank_small (HostsLine m) = omega arith
rank_small (IdsLine n) = omega arith
rank_small (GeometryLine sector mebibytes) = omega arith
rank_small (LvmLine n) = omega arith
rank_small (ClockLine c) = omega arith
rank_small (DiskLine d) = omega arith
rank_small (AreaLine a) = omega arith
rank_small (LeaseLine r) = omega arith
rank_small (MemberLine s) = omega arith
rank_small BeginLine = omega arith

-- Two tests that agree on a range.
same_on_range : (p q : ℕ → Bool) (n a : ℕ) → ((j : ℕ) → j < a + n → p j ≡ q j) → list_all p (range_with_len a n) ≡ list_all q (range_with_len a n)
same_on_range p q zero a h = refl
same_on_range p q (suc n) a h =
    ap (λ t. t && list_all p (range_with_len (a + 1) n)) (h a (omega arith))
    ∙ ap (λ t. q a && t) (same_on_range p q n (a + 1) (λ j lt. h j (omega arith)))

in_order : (r : HeaderSoFar) (ls : List HeaderLine) → Stands r ls → (k : ℕ) → k < 12 → is_in_order whole_language ls k ≡ is_in_place r k
in_order r ls h k small =
    let least : list_all (λ j. nat_le (least_lines j) (count_of_rank ls j)) (range_with_len 0 k) ≡ list_all (has_least r) (range_with_len 0 k) =
    same_on_range (λ j. nat_le (least_lines j) (count_of_rank ls j)) (has_least r) k 0 (λ j lt. ap (nat_le (least_lines j)) (counts r ls h j (omega arith))) in
    ap (λ t. t && list_all (λ j. nat_le (least_lines j) (count_of_rank ls j)) (range_with_len 0 k) && elim (most_lines k) [ None ↦ true | Some n ↦ nat_lt (count_of_rank ls k) n ]) (h.order k)
    ∙ ap (λ t. nat_le r.last k && t && elim (most_lines k) [ None ↦ true | Some n ↦ nat_lt (count_of_rank ls k) n ]) least
    ∙ ap (λ c. nat_le r.last k && list_all (has_least r) (range_with_len 0 k) && elim (most_lines k) [ None ↦ true | Some n ↦ nat_lt c n ]) (counts r ls h k small)

-- ---- the header

first_listed : {A : Type 0} (o : Option A) (d : A) → unwrap_or (first_of_list (option_to_list o)) d ≡ unwrap_or o d
first_listed None d = refl
first_listed (Some a) d = refl

-- What the first line of a kind gives.
first_is : {A : Type 0} (xs : List A) (o : Option A) (d : A) → xs ≡ option_to_list o → unwrap_or (first_of_list xs) d ≡ unwrap_or o d
first_is xs o d e = ap (λ ys. unwrap_or (first_of_list ys) d) e ∙ first_listed o d

-- The sizes that the lines give.
sizes_are : (o : Option Sizes) (hosts : Option ℕ) (version : Option Bool) → IfSome o (λ z. hosts ≡ Some z.hosts) → IfSome o (λ z. version ≡ Some z.paired)
    → record {
      sector = (unwrap_or (option_map bytes_of o) (default_sector, default_area)).0;
      area = (unwrap_or (option_map bytes_of o) (default_sector, default_area)).1;
      hosts = unwrap_or hosts 0;
      paired = unwrap_or version false;
    }
    ≡ unwrap_or o (default_sizes (unwrap_or hosts 0) (unwrap_or version false))
sizes_are None hosts version same pairs = refl
sizes_are (Some z) hosts version same pairs =
    ap (λ h. record { sector = z.sector; area = z.area; hosts = unwrap_or h 0; paired = unwrap_or version false }) same
    ∙ ap (λ v. record z { paired = unwrap_or v false }) pairs

pub header_is : (r : HeaderSoFar) (ls : List HeaderLine) → Stands r ls → header_of default_sector default_area ls ≡ header_now r
unfolding header_of
header_is r ls h =
    let times : unwrap_or (first_of_list (filter_map timing_line ls)) (no_timing, 0) ≡ unwrap_or r.times (no_timing, 0) = first_is _ r.times (no_timing, 0) h.timings in
    let machines : unwrap_or (first_of_list (filter_map hosts_line ls)) 0 ≡ unwrap_or r.machines 0 = first_is _ r.machines 0 h.numbers in
    let hosts : unwrap_or (first_of_list (filter_map ids_line ls)) 0 ≡ unwrap_or r.hosts 0 = first_is _ r.hosts 0 h.ids in
    let bytes : unwrap_or (first_of_list (filter_map geometry_line ls)) (default_sector, default_area) ≡ unwrap_or (option_map bytes_of r.sizes) (default_sector, default_area) =
    first_is _ (option_map bytes_of r.sizes) (default_sector, default_area) h.geometries in
    let retries : unwrap_or (first_of_list (filter_map retries_line ls)) 0 ≡ unwrap_or r.retries 0 = first_is _ r.retries 0 h.retried in
    let pairs : unwrap_or (first_of_list (filter_map version_line ls)) false ≡ unwrap_or r.version false = first_is _ r.version false h.versions in
    rw (times, machines, hosts, bytes, pairs, retries, h.readings, h.paths, h.areas, h.leases, h.members)
    (ap (λ z. record (header_now r) { geometry = z }) (sizes_are r.sizes r.hosts r.version h.sized h.pairs))

-- ---- refusals

pub refusal_is : (r : HeaderSoFar) (ls : List HeaderLine) → Stands r ls → (l : HeaderLine)
    → header_refusal whole_language default_sector default_area ls l ≡ refusal_now r l
refusal_is r ls h l =
    ap (λ t. first_that ((not t, Syntax) ∷ header_tests (header_of default_sector default_area ls) l)) (in_order r ls h (rank l) (rank_small l))
    ∙ ap (λ g. first_that ((not (is_in_place r (rank l)), Syntax) ∷ header_tests g l)) (header_is r ls h)

-- ---- one more line

not_later : (a b k : ℕ) → nat_le a b ≡ true → (nat_le a k && (nat_le b k && true)) ≡ nat_le b k
not_later a b k le = grind (arith, nat_tests)

no_more_kept : {A : Type 0} (pick : HeaderLine → Option A) (ls : List HeaderLine) (l : HeaderLine) (xs : List A)
    → pick l ≡ None → filter_map pick ls ≡ xs → filter_map pick (ls ++ l ∷ []) ≡ xs
no_more_kept pick ls l xs none e = filter_map-append pick ls (l ∷ []) ∙ rw none (append-nil (filter_map pick ls)) ∙ e

one_more_kept : {A : Type 0} (pick : HeaderLine → Option A) (ls : List HeaderLine) (l : HeaderLine) (xs : List A) (x : A)
    → pick l ≡ Some x → filter_map pick ls ≡ xs → filter_map pick (ls ++ l ∷ []) ≡ xs ++ x ∷ []
one_more_kept pick ls l xs x some e = filter_map-append pick ls (l ∷ []) ∙ rw (some, e) refl

first_kept : {A : Type 0} (pick : HeaderLine → Option A) (ls : List HeaderLine) (l : HeaderLine) (o : Option A) (x : A)
    → pick l ≡ Some x → filter_map pick ls ≡ option_to_list o → nat_lt (length (option_to_list o)) 1 ≡ true → filter_map pick (ls ++ l ∷ []) ≡ option_to_list (Some x)
first_kept pick ls l None x some e room = one_more_kept pick ls l [] x some e
first_kept pick ls l (Some y) x some e room = absurd cc

count_with : (k : ℕ) (ls : List HeaderLine) (l : HeaderLine) → count_of_rank (ls ++ l ∷ []) k ≡ count_of_rank ls k + cond (rank l == k) 1 0
count_with k ls l = omega (arith, sum_by-append (λ (l : HeaderLine). cond (rank l == k) 1 0) ls (l ∷ []))

order_with : (r : HeaderSoFar) (ls : List HeaderLine) (l : HeaderLine) → Stands r ls → nat_le r.last (rank l) ≡ true → (k : ℕ)
    → list_all (λ m. nat_le (rank m) k) (ls ++ l ∷ []) ≡ nat_le (rank l) k
order_with r ls l h le k =
    list_all-append (λ (m : HeaderLine). nat_le (rank m) k) ls (l ∷ []) ∙ ap (λ t. t && (nat_le (rank l) k && true)) (h.order k) ∙ not_later r.last (rank l) k le

-- The line's place.
room_of : (r : HeaderSoFar) (k : ℕ) → is_in_place r k ≡ true → has_room r k ≡ true
room_of r k place = (and_true (nat_le r.last k && list_all (has_least r) (range_with_len 0 k)) (has_room r k) place).1

not_before : (r : HeaderSoFar) (k : ℕ) → is_in_place r k ≡ true → nat_le r.last k ≡ true
not_before r k place =
    (and_true (nat_le r.last k) (list_all (has_least r) (range_with_len 0 k))
    (and_true (nat_le r.last k && list_all (has_least r) (range_with_len 0 k)) (has_room r k) place).0).0

after_it : (j a : ℕ) → a ≤ j → (j == a) ≡ false → a + 1 ≤ j
after_it j a low other = grind (arith, nat_tests)

-- A test that holds on a range holds of each number in it.
in_range : (p : ℕ → Bool) (n a : ℕ) → list_all p (range_with_len a n) ≡ true → (j : ℕ) → a ≤ j → j < a + n → p j ≡ true
in_range p zero a h j low high = absurd (omega arith)
in_range p (suc n) a h j low high =
    let parts = and_true (p a) (list_all p (range_with_len (a + 1) n)) h in
    elim (true_or_false (j == a)) as (λ x. p j ≡ true) [
      | inl same ↦ ap p (eqb-true j a same) ∙ parts.0
      | inr other ↦ in_range p n (a + 1) parts.1 j (after_it j a low other) (omega arith)
    ]

-- There are as many lines of each rank before it as there must be.
least_of : (r : HeaderSoFar) (k : ℕ) → is_in_place r k ≡ true → (j : ℕ) → j < k → has_least r j ≡ true
least_of r k place j before =
    in_range (has_least r) k 0 (and_true (nat_le r.last k) (list_all (has_least r) (range_with_len 0 k))
    (and_true (nat_le r.last k && list_all (has_least r) (range_with_len 0 k)) (has_room r k) place).0).1 j (omega arith) (omega arith)

timings_with : (r : HeaderSoFar) (ls : List HeaderLine) (l : HeaderLine) → Stands r ls → is_in_place r (rank l) ≡ true
    → filter_map timing_line (ls ++ l ∷ []) ≡ option_to_list (so_far_with r l).times
timings_with r ls (TimeLine io fire land rho grace) h place = first_kept timing_line ls (TimeLine io fire land rho grace) r.times (record { io = io; fire = fire; land = land; rho = rho }, grace) refl h.timings (room_of r 1 place)
timings_with r ls l h place = no_more_kept timing_line ls l (option_to_list r.times) refl h.timings

numbers_with : (r : HeaderSoFar) (ls : List HeaderLine) (l : HeaderLine) → Stands r ls → is_in_place r (rank l) ≡ true
    → filter_map hosts_line (ls ++ l ∷ []) ≡ option_to_list (so_far_with r l).machines
numbers_with r ls (HostsLine m) h place = first_kept hosts_line ls (HostsLine m) r.machines m refl h.numbers (room_of r 2 place)
numbers_with r ls l h place = no_more_kept hosts_line ls l (option_to_list r.machines) refl h.numbers

ids_with : (r : HeaderSoFar) (ls : List HeaderLine) (l : HeaderLine) → Stands r ls → is_in_place r (rank l) ≡ true
    → filter_map ids_line (ls ++ l ∷ []) ≡ option_to_list (so_far_with r l).hosts
ids_with r ls (IdsLine n) h place = first_kept ids_line ls (IdsLine n) r.hosts n refl h.ids (room_of r 3 place)
ids_with r ls l h place = no_more_kept ids_line ls l (option_to_list r.hosts) refl h.ids

-- The sizes of a line that may stand.
record SizesTaken (r : HeaderSoFar) (sector area : ℕ) : Type 0 where
  taken : Sizes
  is : sizes_of sector area (sizes_now r).hosts (sizes_now r).paired ≡ Some taken
  bytes : bytes_of taken ≡ (sector, area)
  hosts : r.hosts ≡ Some taken.hosts
  pairs : r.version ≡ Some taken.paired
  alone : r.sizes ≡ None

takes_sizes : (r : HeaderSoFar) (sector mebibytes : ℕ) → is_in_place r 4 ≡ true → IfSome r.hosts (HostsAreFew r.version)
    → first_that (header_tests (header_now r) (GeometryLine sector mebibytes)) ≡ None → SizesTaken r sector (mebibytes * mebibyte)
unfolding header_tests
takes_sizes r sector mebibytes place possible none =
    let area : ℕ = mebibytes * mebibyte in
    let given = some_hosts r.version r.hosts (least_of r 4 place 3 (omega arith)) possible in
    let told = some_told r.version (least_of r 4 place 0 (omega arith)) in
    let alone = none_yet r.sizes (room_of r 4 place) in
    let first : Sizes = default_sizes (unwrap_or r.hosts 0) (unwrap_or r.version false) in
    let hosts : (sizes_now r).hosts ≡ given.0 = ap (λ o. (unwrap_or o first).hosts) alone ∙ ap (λ h. unwrap_or h 0) given.1 in
    let pairs : (sizes_now r).paired ≡ told.0 = ap (λ o. (unwrap_or o first).paired) alone ∙ ap (λ v. unwrap_or v false) told.1 in
    let tests : Bool → ℕ → List (Bool × Refusal) = λ paired n. (is_none (most_ids sector area), LimitGeometry) ∷ (some_is (λ most. nat_lt (roomy paired most) n) (most_ids sector area), LimitIds) ∷ [] in
    record {
      taken = record { sector = sector; area = area; hosts = given.0; paired = told.0 };
      is = ap (λ n. sizes_of sector area n (sizes_now r).paired) hosts ∙ ap (sizes_of sector area given.0) pairs
          ∙ sizes_taken sector area given.0 told.0 given.2
          (subst (λ (n : ℕ). first_that (tests told.0 n) ≡ None) hosts (subst (λ (b : Bool). first_that (tests b (sizes_now r).hosts) ≡ None) pairs none));
      bytes = refl;
      hosts = given.1;
      pairs = told.1;
      alone = alone;
    }

no_bytes : (o : Option Sizes) (xs : List (ℕ × ℕ)) → o ≡ None → xs ≡ option_to_list (option_map bytes_of o) → xs ≡ []
no_bytes None xs none e = e
no_bytes (Some z) xs none e = absurd cc

geometries_with : (r : HeaderSoFar) (ls : List HeaderLine) (l : HeaderLine) → Stands r ls → is_in_place r (rank l) ≡ true → IfSome r.hosts (HostsAreFew r.version)
    → first_that (header_tests (header_now r) l) ≡ None → filter_map geometry_line (ls ++ l ∷ []) ≡ option_to_list (option_map bytes_of (so_far_with r l).sizes)
geometries_with r ls (GeometryLine sector mebibytes) h place possible none =
    let t = takes_sizes r sector mebibytes place possible none in
    one_more_kept geometry_line ls (GeometryLine sector mebibytes) [] (sector, mebibytes * mebibyte) refl (no_bytes r.sizes (filter_map geometry_line ls) t.alone h.geometries)
    ∙ sym (ap (λ o. option_to_list (option_map bytes_of o)) t.is ∙ ap (λ p. p ∷ []) t.bytes)
geometries_with r ls l h place possible none = no_more_kept geometry_line ls l (option_to_list (option_map bytes_of r.sizes)) refl h.geometries

-- What sizes go by was told before them, once.
still_told : {A : Type 0} (o : Option Sizes) (pick : Sizes → A) (told : Option A) (a : A) → nat_lt (length (option_to_list told)) 1 ≡ true
    → IfSome o (λ z. told ≡ Some (pick z)) → IfSome o (λ z. Some a ≡ Some (pick z))
still_told None pick told a room same = tt
still_told (Some z) pick None a room same = absurd cc
still_told (Some z) pick (Some b) a room same = absurd cc

sized_with : (r : HeaderSoFar) (ls : List HeaderLine) (l : HeaderLine) → Stands r ls → is_in_place r (rank l) ≡ true → IfSome r.hosts (HostsAreFew r.version)
    → first_that (header_tests (header_now r) l) ≡ None → IfSome (so_far_with r l).sizes (λ z. (so_far_with r l).hosts ≡ Some z.hosts)
sized_with r ls (IdsLine n) h place possible none = still_told r.sizes (λ z. z.hosts) r.hosts n (room_of r 3 place) h.sized
sized_with r ls (GeometryLine sector mebibytes) h place possible none =
    let t = takes_sizes r sector mebibytes place possible none in subst (λ (o : Option Sizes). IfSome o (λ z. r.hosts ≡ Some z.hosts)) (sym t.is) t.hosts
sized_with r ls l h place possible none = h.sized

pairs_with : (r : HeaderSoFar) (ls : List HeaderLine) (l : HeaderLine) → Stands r ls → is_in_place r (rank l) ≡ true → IfSome r.hosts (HostsAreFew r.version)
    → first_that (header_tests (header_now r) l) ≡ None → IfSome (so_far_with r l).sizes (λ z. (so_far_with r l).version ≡ Some z.paired)
pairs_with r ls (VersionLine paired) h place possible none = still_told r.sizes (λ z. z.paired) r.version paired (room_of r 0 place) h.pairs
pairs_with r ls (GeometryLine sector mebibytes) h place possible none =
    let t = takes_sizes r sector mebibytes place possible none in subst (λ (o : Option Sizes). IfSome o (λ z. r.version ≡ Some z.paired)) (sym t.is) t.pairs
pairs_with r ls l h place possible none = h.pairs

retried_with : (r : HeaderSoFar) (ls : List HeaderLine) (l : HeaderLine) → Stands r ls → is_in_place r (rank l) ≡ true
    → filter_map retries_line (ls ++ l ∷ []) ≡ option_to_list (so_far_with r l).retries
retried_with r ls (LvmLine n) h place = first_kept retries_line ls (LvmLine n) r.retries n refl h.retried (room_of r 5 place)
retried_with r ls l h place = no_more_kept retries_line ls l (option_to_list r.retries) refl h.retried

readings_with : (r : HeaderSoFar) (ls : List HeaderLine) (l : HeaderLine) → Stands r ls → is_in_place r (rank l) ≡ true
    → filter_map clock_line (ls ++ l ∷ []) ≡ (so_far_with r l).clocks
readings_with r ls (ClockLine c) h place = one_more_kept clock_line ls (ClockLine c) r.clocks c refl h.readings
readings_with r ls l h place = no_more_kept clock_line ls l r.clocks refl h.readings

paths_with : (r : HeaderSoFar) (ls : List HeaderLine) (l : HeaderLine) → Stands r ls → is_in_place r (rank l) ≡ true
    → filter_map disk_line (ls ++ l ∷ []) ≡ (so_far_with r l).disks
paths_with r ls (DiskLine d) h place = one_more_kept disk_line ls (DiskLine d) r.disks d refl h.paths
paths_with r ls l h place = no_more_kept disk_line ls l r.disks refl h.paths

areas_with : (r : HeaderSoFar) (ls : List HeaderLine) (l : HeaderLine) → Stands r ls → is_in_place r (rank l) ≡ true
    → filter_map area_line (ls ++ l ∷ []) ≡ (so_far_with r l).lockspaces
areas_with r ls (AreaLine a) h place = one_more_kept area_line ls (AreaLine a) r.lockspaces a refl h.areas
areas_with r ls l h place = no_more_kept area_line ls l r.lockspaces refl h.areas

leases_with : (r : HeaderSoFar) (ls : List HeaderLine) (l : HeaderLine) → Stands r ls → is_in_place r (rank l) ≡ true
    → filter_map lease_line (ls ++ l ∷ []) ≡ (so_far_with r l).resources
leases_with r ls (LeaseLine q) h place = one_more_kept lease_line ls (LeaseLine q) r.resources q refl h.leases
leases_with r ls l h place = no_more_kept lease_line ls l r.resources refl h.leases

members_with : (r : HeaderSoFar) (ls : List HeaderLine) (l : HeaderLine) → Stands r ls → is_in_place r (rank l) ≡ true
    → filter_map member_line (ls ++ l ∷ []) ≡ (so_far_with r l).sessions
members_with r ls (MemberLine s) h place = one_more_kept member_line ls (MemberLine s) r.sessions s refl h.members
members_with r ls l h place = no_more_kept member_line ls l r.sessions refl h.members

same_count : (m n : ℕ) → m ≡ n → m + 0 ≡ n
same_count m n e = omega arith

versions_with : (r : HeaderSoFar) (ls : List HeaderLine) (l : HeaderLine) → Stands r ls → is_in_place r (rank l) ≡ true
    → filter_map version_line (ls ++ l ∷ []) ≡ option_to_list (so_far_with r l).version
versions_with r ls (VersionLine paired) h place = first_kept version_line ls (VersionLine paired) r.version paired refl h.versions (room_of r 0 place)
versions_with r ls l h place = no_more_kept version_line ls l (option_to_list r.version) refl h.versions

begins_with : (r : HeaderSoFar) (ls : List HeaderLine) (l : HeaderLine) → Stands r ls → (rank l ≡ 11 → ⊥) → count_of_rank (ls ++ l ∷ []) 11 ≡ 0
begins_with r ls BeginLine h not_begin = absurd (not_begin refl)
begins_with r ls l h not_begin = count_with 11 ls l ∙ same_count (count_of_rank ls 11) _ h.begins

stands_with : (r : HeaderSoFar) (ls : List HeaderLine) (l : HeaderLine) → Stands r ls → is_in_place r (rank l) ≡ true → (rank l ≡ 11 → ⊥) → IfSome r.hosts (HostsAreFew r.version)
    → first_that (header_tests (header_now r) l) ≡ None → Stands (so_far_with r l) (ls ++ l ∷ [])
stands_with r ls l h place not_begin possible none =
    record {
      order = (λ k. order_with r ls l h (not_before r (rank l) place) k);
      versions = versions_with r ls l h place;
      timings = timings_with r ls l h place;
      numbers = numbers_with r ls l h place;
      ids = ids_with r ls l h place;
      geometries = geometries_with r ls l h place possible none;
      sized = sized_with r ls l h place possible none;
      pairs = pairs_with r ls l h place possible none;
      retried = retried_with r ls l h place;
      readings = readings_with r ls l h place;
      paths = paths_with r ls l h place;
      areas = areas_with r ls l h place;
      leases = leases_with r ls l h place;
      members = members_with r ls l h place;
      begins = begins_with r ls l h not_begin;
    }

none_is_least : (k : ℕ) → true ≡ nat_le 0 k
none_is_least k = grind (arith, nat_tests)

pub stands_at_first : Stands no_lines []
stands_at_first =
    record {
      order = none_is_least;
      versions = refl;
      timings = refl;
      numbers = refl;
      ids = refl;
      geometries = refl;
      sized = tt;
      pairs = tt;
      retried = refl;
      readings = refl;
      paths = refl;
      areas = refl;
      leases = refl;
      members = refl;
      begins = refl;
    }

-- ---- the answer to a line

-- Where nothing refuses `begin`, times and a number of hosts were given.
given : {A : Type 0} (o : Option A) → nat_le 1 (length (option_to_list o)) ≡ true → IsSome o
given None h = absurd cc
given (Some a) h = refl

-- The answer to a line that was read is that of the definitions.
answered : (r : HeaderSoFar) (ls : List HeaderLine) → Stands r ls → (read : Option HeaderLine)
    → answer_to r read ≡ elim (header_line_refusal whole_language ls read) [
      | Some why ↦ Refused why
      | None ↦ elim (some_is is_begin read) [ true ↦ Begun (header_of default_sector default_area ls) | false ↦ More ]
    ]
answered r ls h None = refl
answered r ls h (Some l) =
    ap (λ o. elim o [ Some why ↦ Refused why | None ↦ elim (is_begin l) [ true ↦ Begun (header_now r) | false ↦ More ] ]) (sym (refusal_is r ls h l))
    ∙ ap (λ g. elim (header_refusal whole_language default_sector default_area ls l) [
      | Some why ↦ Refused why
      | None ↦ elim (is_begin l) [ true ↦ Begun g | false ↦ More ]
    ]) (sym (header_is r ls h))

-- The bytes of an area so far.
pub area_is : (r : HeaderSoFar) (ls : List HeaderLine) → Stands r ls → (sizes_now r).area ≡ (header_of default_sector default_area ls).geometry.area
area_is r ls h = ap (λ (g : Header). g.geometry.area) (sym (header_is r ls h))

pub answer_is : (r : HeaderSoFar) (ls : List HeaderLine) (line : List ℕ) → Stands r ls → answer_now r line ≡ answer_after ls line
answer_is r ls line h =
    ap (λ area. elim (is_skipped line) [ true ↦ More | false ↦ answer_to r (header_line_in whole_language area line) ]) (area_is r ls h)
    ∙ ap (λ a. elim (is_skipped line) [ true ↦ More | false ↦ a ]) (answered r ls h (header_line_in whole_language (header_of default_sector default_area ls).geometry.area line))

-- What is kept stands for the lines then.
not_last : (l : HeaderLine) → is_begin l ≡ false → rank l ≡ 11 → ⊥
not_last BeginLine h e = absurd cc
not_last (VersionLine paired) h e = omega arith
not_last (TimeLine io fire land rho grace) h e = omega arith
not_last (HostsLine m) h e = omega arith
not_last (IdsLine n) h e = omega arith
not_last (GeometryLine sector mebibytes) h e = omega arith
not_last (LvmLine n) h e = omega arith
not_last (ClockLine c) h e = omega arith
not_last (DiskLine d) h e = omega arith
not_last (AreaLine a) h e = omega arith
not_last (LeaseLine r) h e = omega arith
not_last (MemberLine s) h e = omega arith

in_place : (t : Bool) (tests : List (Bool × Refusal)) → first_that ((not t, Syntax) ∷ tests) ≡ None → t ≡ true
in_place true tests none = refl
in_place false tests none = absurd cc

others_pass : (t : Bool) (tests : List (Bool × Refusal)) → first_that ((not t, Syntax) ∷ tests) ≡ None → first_that tests ≡ None
others_pass true tests none = none
others_pass false tests none = absurd cc

stood_for : (r : HeaderSoFar) (ls : List HeaderLine) (l : HeaderLine) (why : Option Refusal) (begin : Bool) → Stands r ls → IfSome r.hosts (HostsAreFew r.version) → refusal_now r l ≡ why → is_begin l ≡ begin
    → Stands (elim why [ Some w ↦ r | None ↦ elim begin [ true ↦ no_lines | false ↦ so_far_with r l ] ])
    (elim why [ Some w ↦ ls | None ↦ elim begin [ true ↦ [] | false ↦ with_line ls (Some l) ] ])
stood_for r ls l (Some w) begin h possible why is = h
stood_for r ls l None true h possible why is = stands_at_first
stood_for r ls l None false h possible why is =
    stands_with r ls l h (in_place (is_in_place r (rank l)) (header_tests (header_now r) l) why) (not_last l is) possible
    (others_pass (is_in_place r (rank l)) (header_tests (header_now r) l) why)

stood_after : (r : HeaderSoFar) (ls : List HeaderLine) → Stands r ls → IfSome r.hosts (HostsAreFew r.version) → (read : Option HeaderLine)
    → Stands (kept_after r read) (elim (header_line_refusal whole_language ls read) [
      | Some why ↦ ls
      | None ↦ elim (some_is is_begin read) [ true ↦ [] | false ↦ with_line ls read ]
    ])
stood_after r ls h possible None = h
stood_after r ls h possible (Some l) =
    let kept : HeaderSoFar = kept_after r (Some l) in
    let P : Option Refusal → Type 0 = λ o. Stands kept (elim o [
      | Some why ↦ ls
      | None ↦ elim (is_begin l) [ true ↦ [] | false ↦ with_line ls (Some l) ]
    ]) in
    subst P (sym (refusal_is r ls h l)) (stood_for r ls l (refusal_now r l) (is_begin l) h possible refl refl)

pub stands_after : (r : HeaderSoFar) (ls : List HeaderLine) (line : List ℕ) → Stands r ls → IfSome r.hosts (HostsAreFew r.version) → Stands (so_far_after r line) (lines_after ls line)
stands_after r ls line h possible =
    let read : Option HeaderLine = header_line_in whole_language (header_of default_sector default_area ls).geometry.area line in
    subst (λ (kept : HeaderSoFar). Stands kept (lines_after ls line))
    (ap (λ area. elim (is_skipped line) [ true ↦ r | false ↦ kept_after r (header_line_in whole_language area line) ]) (sym (area_is r ls h)))
    (elim (is_skipped line) as (λ t. Stands (elim t [ true ↦ r | false ↦ kept_after r read ]) (elim t [
      | true ↦ ls
      | false ↦ elim (header_line_refusal whole_language ls read) [
        | Some why ↦ ls
        | None ↦ elim (some_is is_begin read) [ true ↦ [] | false ↦ with_line ls read ]
      ]
    ])) [ true ↦ h | false ↦ stood_after r ls h possible read ])

-- ---- what is kept may be a run's

told_by : (o : Option Sizes) (hosts : ℕ) (version : Option Bool) → IfSome o (λ z. version ≡ Some z.paired) → IsSome version
    → version ≡ Some (unwrap_or o (default_sizes hosts (unwrap_or version false))).paired
told_by None hosts None same some = absurd cc
told_by None hosts (Some paired) same some = refl
told_by (Some z) hosts version same some = same

-- A line in its place, whose values a run may have.
pub possible : (r : HeaderSoFar) (l : HeaderLine) → is_in_place r (rank l) ≡ true → IsWithin r l → IsPossible r l
possible r (VersionLine paired) place within = none_yet r.version (room_of r 0 place)
possible r (TimeLine io fire land rho grace) place within = within
possible r (IdsLine n) place within = within (given r.version (least_of r 3 place 0 (omega arith)))
possible r (GeometryLine sector mebibytes) place within = (given r.version (least_of r 4 place 0 (omega arith)), none_yet r.sizes (room_of r 4 place))
possible r l place within = tt
