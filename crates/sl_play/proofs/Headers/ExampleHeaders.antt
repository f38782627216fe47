-- Two headers that are read, by computation.
use Rattle.sl_play.specs.Headers.HeaderLaw.{IsRead, SomeHeadersAreRead, full_header, least_header}
use Rattle.sl_report.specs.HeaderLines.{header_forms, header_of}
use Rattle.sl_report.specs.HeaderRefusals.{header_tests}
use Rattle.sl_run.specs.declared.header.Header.{Header}
use Rattle.std.proofs.Common.{[], refl, ◌∷◌}
use Rattle.std.specs.Prelude.{codes, false, true}

abbrev several : Header
several =
    record {
      timing = record { io = 1000; fire = 60000; land = 10000; rho = 10 };
      grace = 60000;
      machines = 3;
      geometry = record { sector = 4096; area = 2097152; hosts = 250; paired = true };
      retries = 8;
      clocks = record { machine = 1; reading = 500 } ∷ record { machine = 3; reading = 0 } ∷ [];
      disks = record { path = codes "/d"; mebibytes = 4 } ∷ record { path = codes "/e"; mebibytes = 64 } ∷ [];
      lockspaces = record { name = codes "one"; path = codes "/d"; offset = 0 } ∷ record { name = codes "two"; path = codes "/e"; offset = 0 } ∷ [];
      resources = record { lockspace = codes "one"; name = codes "lease"; path = codes "/d"; offset = 2097152 }
          ∷ record { lockspace = codes "two"; name = codes "lease"; path = codes "/e"; offset = 4194304 } ∷ [];
      sessions = record { machine = 1; lockspace = codes "one"; id = 1; name = codes "host" }
          ∷ record { machine = 1; lockspace = codes "two"; id = 2; name = codes "host" }
          ∷ record { machine = 2; lockspace = codes "one"; id = 250; name = codes "other" } ∷ [];
    }

abbrev nobody : Header
nobody =
    record {
      timing = record { io = 1000; fire = 60000; land = 10000; rho = 10 };
      grace = 60000;
      machines = 1;
      geometry = record { sector = 512; area = 1048576; hosts = 2; paired = false };
      retries = 0;
      clocks = [];
      disks = record { path = codes "/d"; mebibytes = 2 } ∷ [];
      lockspaces = record { name = codes "one"; path = codes "/d"; offset = 0 } ∷ [];
      resources = [];
      sessions = [];
    }

full_is_read : IsRead full_header 3 2 2 2 2 3
unfolding header_forms header_of header_tests
full_is_read =
    (several, refl, record { machines_are = refl; clock_lines = refl; disk_lines = refl; lockspace_lines = refl; resource_lines = refl; session_lines = refl })

least_is_read : IsRead least_header 1 0 1 1 0 0
unfolding header_forms header_of header_tests
least_is_read =
    (nobody, refl, record { machines_are = refl; clock_lines = refl; disk_lines = refl; lockspace_lines = refl; resource_lines = refl; session_lines = refl })

pub both_are_read : SomeHeadersAreRead
both_are_read = (full_is_read, least_is_read)
