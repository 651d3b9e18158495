use Rattle.store_model.proofs.rest_is_exact.Goals as goal
use Rattle.store_model.proofs.LedLaws.{led}
use Rattle.store_model.proofs.AtRest.{rest_led, at_rest}

pub returns : goal.returns
returns c = record {
  led = led;
  rest_led = rest_led;
  rest = at_rest;
}
