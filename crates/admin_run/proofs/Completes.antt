-- The status that a complete connection gives is that of its stream.
use Rattle.std.proofs.Common.{◌≡◌, ◌⊎◌, ◌∙◌, ℕ, ap, inl, inr, sym}
use Rattle.front_http.specs.Stream.{Requests, Ending}
use Rattle.cloud_serve.specs.declared.serve.End.{End}
use Rattle.cloud_serve.specs.declared.serve.End.TheVariants as end
use Rattle.cloud_serve.specs.Served.{Complete, IsConnectionEnd}
use Rattle.admin_run.specs.Statuses.{status_by, status_of_stream}

status_here : (e : End) (x : Ending) → IsConnectionEnd e x → status_by e ≡ status_of_stream x
status_here end.Done x (inl done) = sym (ap status_of_stream done)
status_here end.Done x (inr last) = sym (ap status_of_stream last)
status_here (end.CutOff n) x is = sym (ap status_of_stream is)
status_here (end.Refused status at) x is = sym (ap status_of_stream is.2)
status_here end.ReadFault x is = absurd is
status_here end.WriteFault x is = absurd is
status_here end.Spent x is = absurd is
status_here end.Memory x is = absurd is

pub completes : (e : End) (status served : ℕ) (requests : Requests) → status ≡ status_by e → (e ≡ end.Memory) ⊎ Complete requests e served → (status ≡ 7) ⊎ (status ≡ status_of_stream requests.end)
completes e status served requests is (inl memory) = inl (is ∙ ap status_by memory)
completes e status served requests is (inr complete) = inr (is ∙ status_here e requests.end complete.ends)
