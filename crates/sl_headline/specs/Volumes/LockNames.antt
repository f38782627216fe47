-- Which locks lines name: those whose resources a command may name.
use Rattle.sl_area.specs.AreaSizes.{layout_of}
use Rattle.sl_run.specs.LockNames.{resource_of, Lock}
use Rattle.sl_run.specs.Headers.{IsHeader}
use Rattle.sl_run.specs.declared.header.Header.{Header}
use Rattle.sl_trace.specs.CommandForms.{IsResourceArg}
use Rattle.sl_headline.specs.Volumes.LockAsks.{IsNamedLock}

-- The names that a lock's line allows have room in the names and the path of its resource, and its area stands at a multiple of the size.
abbrev pub LocksAreResources : Type 0
LocksAreResources = (h : Header) → IsHeader h → (l : Lock) → IsNamedLock h.geometry.area l → IsResourceArg (layout_of h.geometry) (resource_of h.geometry.area l)
