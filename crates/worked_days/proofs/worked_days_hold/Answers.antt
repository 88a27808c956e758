use Rattle.std.proofs.Common.{refl}
use Rattle.worked_days.proofs.Crossings.{h}
use Rattle.worked_days.proofs.Deliveries.{c, c_before_holds, c_first_holds, d, d_levels_hold, e}
use Rattle.worked_days.proofs.Distances.{a, b, b_next_holds, b_none_holds}
use Rattle.worked_days.proofs.Ending.{l}
use Rattle.worked_days.proofs.Lasting.{j}
use Rattle.worked_days.proofs.Loans.{f}
use Rattle.worked_days.proofs.Opposite.{g, g_levels_hold}
use Rattle.worked_days.proofs.Single.{k_crossing_holds, k_loan_holds}
use Rattle.worked_days.proofs.Waiting.{i}
use Rattle.worked_days.proofs.worked_days_hold.Goals as goal

pub returns : goal.returns
returns _ = record {
  a = a;
  b = b;
  b_next = b_next_holds;
  b_none = b_none_holds;
  c = c;
  c_order = refl;
  c_before = c_before_holds;
  c_first = c_first_holds;
  d = d;
  d_brought = record { low = refl; high = refl };
  d_taken = record { low = refl; high = refl };
  d_levels = d_levels_hold;
  e = e;
  f = f;
  f_after = record { low = refl; high = refl };
  g = g;
  g_levels = g_levels_hold;
  h = h;
  h_after = record { low = refl; high = refl };
  i = i;
  i_waits = record { low = refl; high = refl };
  j = j;
  j_starts = record { low = refl; high = refl };
  j_lasts = record { low = refl; high = refl };
  k_crossing = k_crossing_holds;
  k_loan = k_loan_holds;
  k_end = record { low = refl; high = refl };
  l = l;
  l_ends = record { low = refl; high = refl };
}
