-- The words that the definitions here speak in, each defined in the crate that its line names.
pub use Rattle.bridge_headers.specs.Relay.{Relays}
pub use Rattle.bridge_headers.specs.declared.fault.RelayFault.{RelayFault}
pub use Rattle.cloud_serve.specs.Effects.{AskedOf}
pub use Rattle.cloud_serve.specs.Turns.{ask_of}
pub use Rattle.front_http.specs.Texts.{refusal_body}
pub use Rattle.grain_supervise.specs.Line.{Line}
pub use Rattle.grain_supervise.specs.declared.ask.Ask.{Ask}
pub use Rattle.host_base.specs.Outside.{Rose}
pub use Rattle.host_base.specs.declared.{bytes.Memory.Memory, digest.Digest.Digest, key.Key.Key, permit.Permit.Permit, request.Request.Request, verdict.Denial.Denial, verdict.Verdict.Verdict}
pub use Rattle.hub_core.specs.Book.{Book, Judged, TakesNone}
pub use Rattle.reply_texts.specs.Texts.{denial_body}
pub use Rattle.sha2.specs.Sha256.{sha256}
pub use Rattle.tunnel_serve.specs.declared.tunnel_end.HallEnd.{HallEnd}
pub use Rattle.ws_tunnel.specs.Hall.{bytes_of, Hall}
pub use Rattle.ws_tunnel.specs.declared.message.Message.{Message}
