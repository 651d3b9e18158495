use Rattle.store_model.proofs.calls_keep_journals_sound.Goals as goal
use Rattle.store_model.proofs.CallSound.{begin-call, refusal-call, read-call, get-call, release-call, set-call, store-call, make-call, commit-call, abort-call, read-reply, get-reply, old-slot, old-payload}

pub returns : goal.returns
returns c = record {
  begins = begin-call;
  refuses = refusal-call;
  reads = read-call;
  gets = get-call;
  releases = release-call;
  sets = set-call;
  stores = store-call;
  makes = make-call;
  commits = commit-call;
  aborts = abort-call;
  answers_reads = read-reply;
  answers_gets = get-reply;
  removes = old-slot;
  removes_payload = old-payload;
}
