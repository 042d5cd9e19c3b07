-- What causes the statuses of a connection's end.
use Rattle.std.proofs.Common.{◌≡◌, arith}
use Rattle.host_base.specs.Outside.{Inlet, Outlet, Rose}
use Rattle.cloud_serve.specs.declared.serve.End.{End}
use Rattle.cloud_serve.specs.declared.serve.End.TheVariants as end
use Rattle.cloud_serve.specs.Served.{CauseAt}
use Rattle.admin_run.specs.Statuses.{status_by}

module _ (inlet inlet' : Inlet) (outlet outlet' : Outlet) where
  pub read_cause : (e : End) → CauseAt e inlet inlet' outlet outlet' → status_by e ≡ 4 → Rose inlet.faults inlet'.faults
  read_cause end.ReadFault cause is = cause
  read_cause end.Done cause is = absurd (omega (arith, is))
  read_cause (end.Refused status at) cause is = absurd (omega (arith, is))
  read_cause end.WriteFault cause is = absurd (omega (arith, is))
  read_cause (end.CutOff n) cause is = absurd (omega (arith, is))
  read_cause end.Memory cause is = absurd (omega (arith, is))
  read_cause end.Spent cause is = absurd (omega (arith, is))

  pub write_cause : (e : End) → CauseAt e inlet inlet' outlet outlet' → status_by e ≡ 5 → Rose outlet.faults outlet'.faults
  write_cause end.WriteFault cause is = cause
  write_cause end.ReadFault cause is = absurd (omega (arith, is))
  write_cause end.Done cause is = absurd (omega (arith, is))
  write_cause (end.Refused status at) cause is = absurd (omega (arith, is))
  write_cause (end.CutOff n) cause is = absurd (omega (arith, is))
  write_cause end.Memory cause is = absurd (omega (arith, is))
  write_cause end.Spent cause is = absurd (omega (arith, is))
