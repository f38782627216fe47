-- What is seen and asked stays where the looks and the requests are the same.
use Rattle.sl_due.specs.DueRequests.{is_asked}
use Rattle.sl_host_state.specs.HostStands.{AskedStands, WatchKeeps}
use Rattle.sl_trace.specs.Sightings.{seen_records, sightings}
use Rattle.sl_trace.specs.Traces.{Setting, Submitted}
use Rattle.sl_watch.proofs.ToldLaws.{same_seen}
use Rattle.sl_watch.specs.Watches.{Watched}
use Rattle.std.proofs.Common.{ap, sym, ◌∙◌}
use Rattle.std.specs.Prelude.{List, Option, ℕ, ◌≡◌}

pub looks_stay : (st : Setting) (w : Watched) (ms ns : List Submitted) → ((id : ℕ) → sightings st.layout id ns ≡ sightings st.layout id ms) → WatchKeeps st w ms → WatchKeeps st w ns
looks_stay st w ms ns are k =
    record {
      timed = k.timed;
      sized = k.sized;
      count = k.count;
      stands = same_seen w (λ id. sightings st.layout id ms) (λ id. sightings st.layout id ns) (λ id one most. sym (are id)) k.stands;
      beyond = λ id out. ap (seen_records st.layout id) (are id) ∙ k.beyond id out;
    }

pub askings_stay : (st : Setting) (asked : List (Option ℕ)) (ms ns : List Submitted) → ((now owner : ℕ) → is_asked st ns now owner ≡ is_asked st ms now owner) → AskedStands st asked ms
    → AskedStands st asked ns
askings_stay st asked ms ns are k = record { count = k.count; each = λ now owner one most. are now owner ∙ k.each now owner one most }
