-- What the words of `direct` ask for, once each is known by its option.
use Rattle.sl_area.specs.AreaSizes.{Sizes, layout_of}
use Rattle.sl_cli.specs.OptionValues.{for_hosts, is_host_count, is_new_lockspace, is_stretch, new_lockspace, paired_said, sizes_said, stretch_of}
use Rattle.sl_direct.specs.declared.action.Action.TheVariants.{Dump, InitLockspace, InitResource, ReadLeader, Upgrade}
use Rattle.sl_direct.specs.declared.action.Action.{Action}
use Rattle.sl_text.specs.Numbers.{number_of}
use Rattle.sl_trace.specs.CommandForms.{is_resource_word, resource_of_word}
use Rattle.sl_words.specs.Words.{choose}
use Rattle.std.specs.Prelude.{Bool, List, None, Option, Some, bytes_eq, codes, false, if◌then◌else◌, option_and_then, true, ℕ, ◌&&◌}

-- The word of the action, and the values of `-s`, `-r`, `-n`, `-d`, `-g` and `-v`: each where it was given.
pub record Given : Type 0 where
  pub action : Option (List ℕ)
  pub lockspace : Option (List ℕ)
  pub resource : Option (List ℕ)
  pub hosts : Option (List ℕ)
  pub stretch : Option (List ℕ)
  pub geometry : Option (List ℕ)
  pub format : Option (List ℕ)

-- The sizes of an action's area, if it were for the most hosts, and its options: a lockspace or a resource, hosts, a stretch.
abbrev pub Wants : Type 0
Wants = Sizes → Option (List ℕ) → Option (List ℕ) → Option (List ℕ) → Option (List ℕ) → Option Action

-- A new lockspace for so many hosts.
abbrev pub lockspace_in : Sizes → List ℕ → List ℕ → Option Action
lockspace_in most s n =
    choose (is_new_lockspace most s && is_host_count false most n) (InitLockspace (new_lockspace s) (for_hosts false most (number_of n)))

-- A new resource for so many hosts, with pairs or without.
abbrev pub resource_in : Bool → Sizes → List ℕ → List ℕ → Option Action
resource_in paired most r n =
    choose (is_resource_word (layout_of most) r && is_host_count paired most n) (InitResource (resource_of_word r) (for_hosts paired most (number_of n)))

-- A new lockspace has no pairs, a new resource may have some; each takes how many hosts it is for.
abbrev pub area_in : Sizes → Option (List ℕ) → Option (List ℕ) → Option (List ℕ) → Option (List ℕ) → Bool → Option Action
area_in most (Some s) None (Some n) None paired = if paired then None else lockspace_in most s n
area_in most None (Some r) (Some n) None paired = resource_in paired most r n
area_in most s r n d paired = None

-- `init` takes a lockspace or a resource, and its format.
abbrev pub init_in : Sizes → Option (List ℕ) → Option (List ℕ) → Option (List ℕ) → Option (List ℕ) → Option (List ℕ) → Option Action
init_in most s r n d v = option_and_then (area_in most s r n d) (paired_said v)

-- `upgrade` takes a resource, and how many hosts it is for.
abbrev pub upgrade_in : Wants
upgrade_in most None (Some r) (Some n) None =
    choose (is_resource_word (layout_of most) r && is_host_count true most n) (Upgrade (resource_of_word r) (for_hosts true most (number_of n)))
upgrade_in most s r n d = None

-- `read_leader` takes a resource.
abbrev pub read_leader_in : Wants
read_leader_in most None (Some r) None None = choose (is_resource_word (layout_of most) r) (ReadLeader (resource_of_word r) most)
read_leader_in most s r n d = None

-- `dump` takes a stretch.
abbrev pub dump_in : Wants
dump_in most None None None (Some d) = choose (is_stretch most.sector d) (Dump (stretch_of d).path (stretch_of d).offset (stretch_of d).size most)
dump_in most s r n d = None

-- What an action's word wants that has no format.
abbrev pub other_in : List ℕ → Wants
other_in name most s r n d =
    if bytes_eq name (codes "read_leader") then read_leader_in most s r n d
    else if bytes_eq name (codes "dump") then dump_in most s r n d
    else if bytes_eq name (codes "upgrade") then upgrade_in most s r n d
    else None

-- What is wanted where no format was given.
abbrev pub without_format : Option (List ℕ) → Option Action → Option Action
without_format None wanted = wanted
without_format (Some w) wanted = None

-- What an action's word wants. Only `init` may have a format.
abbrev pub named_in : List ℕ → Sizes → Option (List ℕ) → Option (List ℕ) → Option (List ℕ) → Option (List ℕ) → Option (List ℕ) → Option Action
named_in name most s r n d v =
    if bytes_eq name (codes "init") then init_in most s r n d v
    else without_format v (other_in name most s r n d)

-- The action that was asked for, if it is one: its options are there, no others are, and each has a value of its form. Any action may
-- have the option of sizes.
abbrev pub action_in : Given → Option Action
action_in g = elim g.action [
  | Some name ↦ option_and_then (λ most. named_in name most g.lockspace g.resource g.hosts g.stretch g.format) (sizes_said g.geometry)
  | None ↦ None
]
