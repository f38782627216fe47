-- What is given for an action: the action that is read has it, and it is read as the action.
use Rattle.sl_area.specs.AreaSizes.{Sizes, layout_of}
use Rattle.sl_cli.proofs.OptionValueTexts.{hosts_read, hosts_written, lockspace_read, lockspace_written, stretch_read, stretch_written}
use Rattle.sl_cli.proofs.SizeWords.{IsOfRow, IsSaid, few_hosts, geometry_for, row_geometry, row_of, row_written_for, said_read, said_written, same_says}
use Rattle.sl_cli.specs.Actions.{Given, action_in, area_in, dump_in, init_in, named_in, other_in, read_leader_in, resource_in, upgrade_in, without_format}
use Rattle.sl_cli.specs.OptionValues.{for_hosts, is_host_count, is_new_lockspace, is_stretch, new_lockspace, paired_said, room_for, sizes_said, stretch_of}
use Rattle.sl_cli.specs.Spellings.{ActionsHaveOneText, IsAsked, IsGivenFor, IsNewLockspace, IsStretchArg, SaysSizes, format_word, given_for, sizes_in, stretch_word}
use Rattle.sl_command.proofs.PartTexts.{resource_read, resource_written}
use Rattle.sl_direct.specs.Actions.{IsAction, IsStretch}
use Rattle.sl_direct.specs.declared.action.Action.TheVariants.{Dump, InitLabelled, InitLockspace, InitResource, ReadLeader, Upgrade}
use Rattle.sl_direct.specs.declared.action.Action.{Action}
use Rattle.sl_text.specs.Numbers.{number_of}
use Rattle.sl_trace.specs.CommandForms.{IsResourceArg, is_resource_word, lockspace_word, moded_word, resource_of_word}
use Rattle.sl_trace.specs.declared.command.LockspaceArg.{LockspaceArg}
use Rattle.sl_trace.specs.declared.command.ResourceArg.{ResourceArg}
use Rattle.sl_words.proofs.CaseLaws.{none_some}
use Rattle.sl_words.proofs.WordLaws.{and_true, choose_some}
use Rattle.sl_words.specs.Words.{choose}
use Rattle.std.proofs.Common.{Bool, List, None, Option, Some, ap, eqb, false, inl, inr, leb, ltb, refl, subst, sym, true, ℕ, ◌%◌, ◌&&◌, ◌^◌, ◌≡◌, ◌∙◌}
use Rattle.std.proofs.lemmas.Bool.{cases_Bool, eqb-true, leb-true, ltb-true}
use Rattle.std.proofs.lemmas.Slice.Eq.{bytes_eq-Decides}
use Rattle.std.specs.Int.{is_in_range}
use Rattle.std.specs.Prelude.{bytes_eq, codes, decimal, option_and_then}

-- ---- an area may begin there whatever its hosts

lockspace_for : (p : Bool) (most : Sizes) (n : ℕ) (l : LockspaceArg) → IsNewLockspace most l → IsNewLockspace (for_hosts p most n) l
lockspace_for p most n l is = record { named = is.named; no_host = is.no_host; disk = is.disk; base = is.base }

lockspace_of_row : (g most : Sizes) (l : LockspaceArg) → IsOfRow g most → IsNewLockspace g l → IsNewLockspace most l
lockspace_of_row g most l of is =
    let here : IsNewLockspace (for_hosts g.paired most g.hosts) l = subst (λ s. IsNewLockspace s l) (sym of.same) is in
    record { named = here.named; no_host = here.no_host; disk = here.disk; base = here.base }

resource_for : (p : Bool) (most : Sizes) (n : ℕ) (r : ResourceArg) → IsResourceArg (layout_of most) r → IsResourceArg (layout_of (for_hosts p most n)) r
resource_for p most n r is = record { space = is.space; named = is.named; disk = is.disk; base = is.base }

resource_of_row : (g most : Sizes) (r : ResourceArg) → IsOfRow g most → IsResourceArg (layout_of g) r → IsResourceArg (layout_of most) r
resource_of_row g most r of is =
    let here : IsResourceArg (layout_of (for_hosts g.paired most g.hosts)) r = subst (λ s. IsResourceArg (layout_of s) r) (sym of.same) is in
    record { space = here.space; named = here.named; disk = here.disk; base = here.base }

-- ---- what is read was given

-- What was given, in the order of a reader's arguments.
abbrev given_as : Option (List ℕ) → List ℕ → Option (List ℕ) → Option (List ℕ) → Option (List ℕ) → Option (List ℕ) → Option (List ℕ) → Given
given_as says name s r n d v = record { action = Some name; lockspace = s; resource = r; hosts = n; stretch = d; geometry = says; format = v }

-- An action that may be asked for, and all that is given for it.
abbrev Reads : Option (List ℕ) → List ℕ → Option (List ℕ) → Option (List ℕ) → Option (List ℕ) → Option (List ℕ) → Option (List ℕ) → Action → Type 0
Reads says name s r n d v a = IsAsked a × IsGivenFor a (given_as says name s r n d v)

lockspace_is : (says : Option (List ℕ)) (most : Sizes) (s n : List ℕ) → IsSaid says most → (is_new_lockspace most s && is_host_count false most n) ≡ true
    → Reads says (codes "init") (Some s) None (Some n) None None (InitLockspace (new_lockspace s) (for_hosts false most (number_of n)))
lockspace_is says most s n said h =
    let both = and_true _ _ h in
    let lockspace = lockspace_read most s both.0 in
    let hosts = hosts_read false most n (few_hosts most said.row) both.1 in (
      (lockspace_for false most (number_of n) (new_lockspace s) lockspace.0, geometry_for false most said.row (number_of n) hosts.0, refl),
      (same_says says false most (number_of n) said.by, λ i. given_as says (codes "init") (Some (sym lockspace.1 i)) None (Some (sym hosts.1 i)) None None),
    )

resource_is : (says : Option (List ℕ)) (p : Bool) (most : Sizes) (r n : List ℕ) → IsSaid says most → (is_resource_word (layout_of most) r && is_host_count p most n) ≡ true
    → Reads says (codes "init") None (Some r) (Some n) None (format_word p) (InitResource (resource_of_word r) (for_hosts p most (number_of n)))
resource_is says p most r n said h =
    let both = and_true _ _ h in
    let resource = resource_read (layout_of most) r both.0 in
    let hosts = hosts_read p most n (few_hosts most said.row) both.1 in (
      (resource_for p most (number_of n) (resource_of_word r) resource.0, geometry_for p most said.row (number_of n) hosts.0),
      (same_says says p most (number_of n) said.by, λ i. given_as says (codes "init") None (Some (sym resource.1 i)) (Some (sym hosts.1 i)) None (format_word p)),
    )

upgrade_is : (says : Option (List ℕ)) (most : Sizes) (r n : List ℕ) → IsSaid says most → (is_resource_word (layout_of most) r && is_host_count true most n) ≡ true
    → Reads says (codes "upgrade") None (Some r) (Some n) None None (Upgrade (resource_of_word r) (for_hosts true most (number_of n)))
upgrade_is says most r n said h =
    let both = and_true _ _ h in
    let resource = resource_read (layout_of most) r both.0 in
    let hosts = hosts_read true most n (few_hosts most said.row) both.1 in (
      (resource_for true most (number_of n) (resource_of_word r) resource.0, geometry_for true most said.row (number_of n) hosts.0, refl),
      (same_says says true most (number_of n) said.by, λ i. given_as says (codes "upgrade") None (Some (sym resource.1 i)) (Some (sym hosts.1 i)) None None),
    )

leader_is : (says : Option (List ℕ)) (most : Sizes) (r : List ℕ) → IsSaid says most → is_resource_word (layout_of most) r ≡ true
    → Reads says (codes "read_leader") None (Some r) None None None (ReadLeader (resource_of_word r) most)
leader_is says most r said h =
    let resource = resource_read (layout_of most) r h in
    ((resource.0, said.row), (said.by, λ i. given_as says (codes "read_leader") None (Some (sym resource.1 i)) None None None))

stretch_is : (says : Option (List ℕ)) (most : Sizes) (d : List ℕ) → IsSaid says most → is_stretch most.sector d ≡ true
    → Reads says (codes "dump") None None None (Some d) None (Dump (stretch_of d).path (stretch_of d).offset (stretch_of d).size most)
stretch_is says most d said h =
    let stretch = stretch_read most.sector d h in
    ((stretch.0, said.row), (said.by, λ i. given_as says (codes "dump") None None None (Some (sym stretch.1 i)) None))

-- What was chosen passed its test.
chosen : (b : Bool) (made a : Action) (P : Action → Type 0) → choose b made ≡ Some a → (b ≡ true → P made) → P a
chosen b made a P h is = let both = choose_some b made a h in subst P both.1 (is both.0)

area_given : (says : Option (List ℕ)) (most : Sizes) → IsSaid says most → (s r n d : Option (List ℕ)) (p : Bool) (a : Action) → area_in most s r n d p ≡ Some a
    → Reads says (codes "init") s r n d (format_word p) a
area_given says most said (Some s) None (Some n) None false a h = chosen _ _ a (Reads says (codes "init") (Some s) None (Some n) None None) h (lockspace_is says most s n said)
area_given says most said (Some s) None (Some n) None true a h = absurd (none_some a h)
area_given says most said None (Some r) (Some n) None p a h = chosen _ _ a (Reads says (codes "init") None (Some r) (Some n) None (format_word p)) h (resource_is says p most r n said)
area_given says most said s r n d p a h = absurd cc

-- The format decides whether there are pairs.
init_given : (says : Option (List ℕ)) (most : Sizes) → IsSaid says most → (s r n d v : Option (List ℕ)) (a : Action) → init_in most s r n d v ≡ Some a
    → Reads says (codes "init") s r n d v a
init_given says most said s r n d None a h = area_given says most said s r n d false a h
init_given says most said s r n d (Some w) a h = by (bytes_eq w (codes "2")) refl h
  where
    by : (two : Bool) → bytes_eq w (codes "2") ≡ two → option_and_then (area_in most s r n d) (choose two true) ≡ Some a → Reads says (codes "init") s r n d (Some w) a
    by true e h = subst (λ u. Reads says (codes "init") s r n d (Some u) a) (sym ((bytes_eq-Decides w (codes "2")).0 e)) (area_given says most said s r n d true a h)
    by false e h = absurd (none_some a h)

upgrade_given : (says : Option (List ℕ)) (most : Sizes) → IsSaid says most → (s r n d : Option (List ℕ)) (a : Action) → upgrade_in most s r n d ≡ Some a
    → Reads says (codes "upgrade") s r n d None a
upgrade_given says most said None (Some r) (Some n) None a h = chosen _ _ a (Reads says (codes "upgrade") None (Some r) (Some n) None None) h (upgrade_is says most r n said)
upgrade_given says most said s r n d a h = absurd cc

leader_given : (says : Option (List ℕ)) (most : Sizes) → IsSaid says most → (s r n d : Option (List ℕ)) (a : Action) → read_leader_in most s r n d ≡ Some a
    → Reads says (codes "read_leader") s r n d None a
leader_given says most said None (Some r) None None a h = chosen _ _ a (Reads says (codes "read_leader") None (Some r) None None None) h (leader_is says most r said)
leader_given says most said s r n d a h = absurd cc

dump_given : (says : Option (List ℕ)) (most : Sizes) → IsSaid says most → (s r n d : Option (List ℕ)) (a : Action) → dump_in most s r n d ≡ Some a
    → Reads says (codes "dump") s r n d None a
dump_given says most said None None None (Some d) a h = chosen _ _ a (Reads says (codes "dump") None None None (Some d) None) h (stretch_is says most d said)
dump_given says most said s r n d a h = absurd cc

-- A word that is known.
at_name : (says : Option (List ℕ)) (name known : List ℕ) (s r n d v : Option (List ℕ)) (a : Action) → bytes_eq name known ≡ true → Reads says known s r n d v a
    → Reads says name s r n d v a
at_name says name known s r n d v a e is = subst (λ u. Reads says u s r n d v a) (sym ((bytes_eq-Decides name known).0 e)) is

-- The name decides.
other_given : (says : Option (List ℕ)) (most : Sizes) → IsSaid says most → (name : List ℕ) (s r n d : Option (List ℕ)) (a : Action) → other_in name most s r n d ≡ Some a
    → Reads says name s r n d None a
other_given says most said name s r n d a h = elim (cases_Bool (bytes_eq name (codes "read_leader"))) [
  | inl e ↦ at_name says name (codes "read_leader") s r n d None a e (leader_given says most said s r n d a (rw e at h))
  | inr no_leader ↦ elim (cases_Bool (bytes_eq name (codes "dump"))) [
    | inl e ↦ at_name says name (codes "dump") s r n d None a e (dump_given says most said s r n d a (rw (no_leader, e) at h))
    | inr no_dump ↦ elim (cases_Bool (bytes_eq name (codes "upgrade"))) [
      | inl e ↦ at_name says name (codes "upgrade") s r n d None a e (upgrade_given says most said s r n d a (rw (no_leader, no_dump, e) at h))
      | inr no_upgrade ↦ absurd (none_some a (rw (no_leader, no_dump, no_upgrade) at h))
    ]
  ]
]

plain_given : (says : Option (List ℕ)) (most : Sizes) → IsSaid says most → (name : List ℕ) (s r n d v : Option (List ℕ)) (a : Action)
    → without_format v (other_in name most s r n d) ≡ Some a → Reads says name s r n d v a
plain_given says most said name s r n d None a h = other_given says most said name s r n d a h
plain_given says most said name s r n d (Some w) a h = absurd (none_some a h)

named_given : (says : Option (List ℕ)) (most : Sizes) → IsSaid says most → (name : List ℕ) (s r n d v : Option (List ℕ)) (a : Action) → named_in name most s r n d v ≡ Some a
    → Reads says name s r n d v a
named_given says most said name s r n d v a h = elim (cases_Bool (bytes_eq name (codes "init"))) [
  | inl e ↦ at_name says name (codes "init") s r n d v a e (init_given says most said s r n d v a (rw e at h))
  | inr no_init ↦ plain_given says most said name s r n d v a (rw no_init at h)
]

-- So do the sizes.
sized_given : (says : Option (List ℕ)) (name : List ℕ) (s r n d v : Option (List ℕ)) (a : Action) (o : Option Sizes) → sizes_said says ≡ o
    → option_and_then (λ most. named_in name most s r n d v) o ≡ Some a → Reads says name s r n d v a
sized_given says name s r n d v a None said h = absurd cc
sized_given says name s r n d v a (Some most) said h = named_given says most (said_read says most said) name s r n d v a h

action_given : (o s r n d says v : Option (List ℕ)) (a : Action)
    → action_in (record { action = o; lockspace = s; resource = r; hosts = n; stretch = d; geometry = says; format = v }) ≡ Some a
    → IsAsked a × IsGivenFor a (record { action = o; lockspace = s; resource = r; hosts = n; stretch = d; geometry = says; format = v })
action_given (Some name) s r n d says v a h = sized_given says name s r n d v a (sizes_said says) refl h
action_given None s r n d says v a h = absurd cc

-- ---- what was given is read

-- Where the row is said, the name decides.
row_read : (says : Option (List ℕ)) (most : Sizes) (name : List ℕ) (s r n d v : Option (List ℕ)) (a : Action) → sizes_said says ≡ Some most
    → named_in name most s r n d v ≡ Some a → action_in (given_as says name s r n d v) ≡ Some a
row_read says most name s r n d v a said is = ap (option_and_then (λ m. named_in name m s r n d v)) said ∙ is

-- The hosts' word, where it is known whether there are pairs.
hosts_asked : (g most : Sizes) (p : Bool) → IsOfRow g most → g.paired ≡ p
    → (is_host_count p most (decimal g.hosts) ≡ true) × (for_hosts p most (number_of (decimal g.hosts)) ≡ g)
hosts_asked g most p of is =
    let range : is_in_range 1 (room_for p most) g.hosts ≡ true = subst (λ q. is_in_range 1 (room_for q most) g.hosts ≡ true) is of.range in
    let hosts = hosts_written p most g.hosts (few_hosts most of.row) range in
    (hosts.0, (λ i. for_hosts (sym is i) most (hosts.1 i)) ∙ of.same)

lockspace_asked : (g most : Sizes) (l : LockspaceArg) → IsOfRow g most → IsNewLockspace g l → g.paired ≡ false
    → init_in most (Some (lockspace_word l)) None (Some (decimal g.hosts)) None None ≡ Some (InitLockspace l g)
lockspace_asked g most l of is plain =
    let lockspace = lockspace_written most l (lockspace_of_row g most l of is) in
    let hosts = hosts_asked g most false of plain in
    rw (lockspace.0, hosts.0) (λ i. Some (InitLockspace (lockspace.1 i) (hosts.1 i)))

said_paired : (p : Bool) → paired_said (format_word p) ≡ Some p
said_paired true = refl
said_paired false = refl

resource_asked : (g most : Sizes) (r : ResourceArg) → IsOfRow g most → IsResourceArg (layout_of g) r
    → init_in most None (Some (moded_word r false)) (Some (decimal g.hosts)) None (format_word g.paired) ≡ Some (InitResource r g)
resource_asked g most r of is =
    let resource = resource_written (layout_of most) r (resource_of_row g most r of is) in
    let hosts = hosts_asked g most g.paired of refl in
    let area : resource_in g.paired most (moded_word r false) (decimal g.hosts) ≡ Some (InitResource r g) =
    rw (resource.0, hosts.0) (λ i. Some (InitResource (resource.1 i) (hosts.1 i))) in
    ap (option_and_then (area_in most None (Some (moded_word r false)) (Some (decimal g.hosts)) None)) (said_paired g.paired) ∙ area

upgrade_asked : (g most : Sizes) (r : ResourceArg) → IsOfRow g most → IsResourceArg (layout_of g) r → g.paired ≡ true
    → upgrade_in most None (Some (moded_word r false)) (Some (decimal g.hosts)) None ≡ Some (Upgrade r g)
upgrade_asked g most r of is paired =
    let resource = resource_written (layout_of most) r (resource_of_row g most r of is) in
    let hosts = hosts_asked g most true of paired in
    rw (resource.0, hosts.0) (λ i. Some (Upgrade (resource.1 i) (hosts.1 i)))

leader_asked : (g : Sizes) (r : ResourceArg) → IsResourceArg (layout_of g) r → read_leader_in g None (Some (moded_word r false)) None None ≡ Some (ReadLeader r g)
leader_asked g r is =
    let resource = resource_written (layout_of g) r is in
    rw resource.0 (λ i. Some (ReadLeader (resource.1 i) g))

stretch_asked : (g : Sizes) (path : List ℕ) (offset size : ℕ) → IsStretchArg g.sector path offset size
    → dump_in g None None None (Some (stretch_word path offset size)) ≡ Some (Dump path offset size g)
stretch_asked g path offset size is =
    let stretch = stretch_written g.sector path offset size is in
    rw stretch.0 (λ i. Some (Dump (stretch.1 i).path (stretch.1 i).offset (stretch.1 i).size g))

given_read : (a : Action) (says : Option (List ℕ)) → IsAsked a → SaysSizes says (sizes_in a) → action_in (given_for says a) ≡ Some a
given_read (InitLockspace l g) says is said =
    let row = row_of g is.1 in
    row_read says row.0 (codes "init") (Some (lockspace_word l)) None (Some (decimal g.hosts)) None None (InitLockspace l g) (row_written_for says g row.0 row.1 said)
    (lockspace_asked g row.0 l row.1 is.0 is.2)
given_read (InitLabelled l g t grace) says is said = absurd is
given_read (InitResource r g) says is said =
    let row = row_of g is.1 in
    row_read says row.0 (codes "init") None (Some (moded_word r false)) (Some (decimal g.hosts)) None (format_word g.paired) (InitResource r g) (row_written_for says g row.0 row.1 said)
    (resource_asked g row.0 r row.1 is.0)
given_read (ReadLeader r g) says is said =
    row_read says g (codes "read_leader") None (Some (moded_word r false)) None None None (ReadLeader r g) (said_written says g is.1 said) (leader_asked g r is.0)
given_read (Upgrade r g) says is said =
    let row = row_of g is.1 in
    row_read says row.0 (codes "upgrade") None (Some (moded_word r false)) (Some (decimal g.hosts)) None None (Upgrade r g) (row_written_for says g row.0 row.1 said)
    (upgrade_asked g row.0 r row.1 is.0 is.2)
given_read (Dump path offset size g) says is said =
    row_read says g (codes "dump") None None None (Some (stretch_word path offset size)) None (Dump path offset size g) (said_written says g is.1 said)
    (stretch_asked g path offset size is.0)

-- ---- both ways

pub actions_have_one_text : ActionsHaveOneText
actions_have_one_text g a = (
  λ h. action_given g.action g.lockspace g.resource g.hosts g.stretch g.geometry g.format a h,
  λ is. ap action_in is.1.1 ∙ given_read a g.geometry is.0 is.1.0,
)

-- ---- what can be done

stretch_can : (sector : ℕ) (path : List ℕ) (offset size : ℕ) → IsStretchArg sector path offset size → IsStretch sector offset size
stretch_can sector path offset size is =
    let start = and_true (eqb (offset % sector) 0) (ltb offset (10 ^ 12)) is.start in
    let long = and_true (eqb (size % sector) 0) (is_in_range 1 1048576 size) is.long in
    let range = and_true (leb 1 size) (leb size 1048576) long.1 in
    record {
      start = (eqb-true (offset % sector) 0 start.0, ltb-true offset (10 ^ 12) start.1);
      whole = eqb-true (size % sector) 0 long.0;
      some = (leb-true 1 size range.0, leb-true size 1048576 range.1);
    }

-- An action that may be asked for can be done.
asked_can : (a : Action) → IsAsked a → IsAction a
asked_can (InitLockspace l g) is = (is.1, is.0.named, is.0.base)
asked_can (InitLabelled l g t grace) is = absurd is
asked_can (InitResource r g) is = (is.1, is.0.space, is.0.named, is.0.base)
asked_can (Upgrade r g) is = (is.1, is.2, is.0.base)
asked_can (ReadLeader r g) is = (row_geometry g is.1, is.0.base)
asked_can (Dump path offset size g) is = (row_geometry g is.1, stretch_can g.sector path offset size is.0)

pub given_can : (g : Given) (a : Action) → action_in g ≡ Some a → IsAction a
given_can g a h = asked_can a ((actions_have_one_text g a).0 h).0

-- ---- both words of an area are read

pub both_chosen : {A B C : Type 0} (a b : Bool) (x v : A) (y w : B) (f : A → B → C) → choose a x ≡ Some v → choose b y ≡ Some w → Some (f v w) ≡ choose (a && b) (f x y)
both_chosen a b x v y w f h k =
    let one = choose_some a x v h in
    let two = choose_some b y w k in
    rw (one.0, two.0) (λ i. Some (f (sym one.1 i) (sym two.1 i)))

-- What was given is known, so what is wanted is.
pub leader_wanted : (most : Sizes) (s r n d : Option (List ℕ)) (word : List ℕ) (a : ResourceArg) → s ≡ None → r ≡ Some word → n ≡ None → d ≡ None
    → choose (is_resource_word (layout_of most) word) (resource_of_word word) ≡ Some a → Some (ReadLeader a most) ≡ read_leader_in most s r n d
leader_wanted most s r n d word a is_s is_r is_n is_d named =
    let words : read_leader_in most s r n d ≡ read_leader_in most None (Some word) None None = λ i. read_leader_in most (is_s i) (is_r i) (is_n i) (is_d i) in
    let one = choose_some (is_resource_word (layout_of most) word) (resource_of_word word) a named in
    let wanted : Some (ReadLeader a most) ≡ read_leader_in most None (Some word) None None = rw one.0 (λ i. Some (ReadLeader (sym one.1 i) most)) in
    wanted ∙ sym words

pub upgrade_wanted : (most : Sizes) (s r n d : Option (List ℕ)) (word hosts : List ℕ) (a : ResourceArg) (g : Sizes) → s ≡ None → r ≡ Some word → n ≡ Some hosts → d ≡ None
    → choose (is_resource_word (layout_of most) word) (resource_of_word word) ≡ Some a → choose (is_host_count true most hosts) (for_hosts true most (number_of hosts)) ≡ Some g
    → Some (Upgrade a g) ≡ upgrade_in most s r n d
upgrade_wanted most s r n d word hosts a g is_s is_r is_n is_d named sized =
    let words : upgrade_in most s r n d ≡ upgrade_in most None (Some word) (Some hosts) None = λ i. upgrade_in most (is_s i) (is_r i) (is_n i) (is_d i) in
    both_chosen (is_resource_word (layout_of most) word) (is_host_count true most hosts) (resource_of_word word) a (for_hosts true most (number_of hosts)) g
    (λ a g. Upgrade a g) named sized ∙ sym words
